mod Made
mod Exact
