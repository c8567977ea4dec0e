use Rattle.std.proofs.Common.{◌≡◌, ℕ, List, [], ◌∷◌}
use Rattle.bits.specs.Places.{places}
use Rattle.bits.proofs.Joining.{handed_on, bits_joined, joined_sound}
use Rattle.bits.proofs.set.Bits.joined.Goals as goal
use Rattle.bits.proofs.set.Bits.joined.Goals.{After-min-p11}

abbrev after : After-min-p11 → List ℕ
after c = c.min-p0.result ∷ c.min-p1.result ∷ c.min-p2.result ∷ c.min-p3.result ∷ c.min-p4.result ∷ c.min-p5.result ∷ c.min-p6.result ∷ c.min-p7.result ∷ c.min-p8.result ∷ c.min-p9.result ∷ c.min-p10.result ∷ c.min-p11.result ∷ []

is : (c : After-min-p11) → after c ≡ handed_on c.args.bit (places c.self.inside)
is c = cc

pub invariant_of-result : goal.invariant_of-result
invariant_of-result c = joined_sound c.self.inside c.args.bit c.args.self.now (after c) c.self.view_is c.self.invariant (is c) c.requires.room c.requires.new

pub returns-clause-set : goal.returns-clause-set
returns-clause-set c =
    let d = (goal.at.returns-clause-set c).After-min-p11 in
    bits_joined d.self.inside d.args.bit d.args.self.now (after d) d.self.view_is d.self.invariant (is d) d.requires.room d.requires.new

pub returns-clause-bits : goal.returns-clause-bits
returns-clause-bits c =
    let d = (goal.at.returns-clause-bits c).After-min-p11 in
    (joined_sound d.self.inside d.args.bit d.args.self.now (after d) d.self.view_is d.self.invariant (is d) d.requires.room d.requires.new).bits
