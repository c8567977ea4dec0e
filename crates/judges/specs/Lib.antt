pub mod Costs
pub mod CostsLemmas
