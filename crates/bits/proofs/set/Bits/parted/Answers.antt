use Rattle.std.proofs.Common.{◌≡◌, ℕ, List, [], ◌∷◌, sym, ap, ◌∙◌}
use Rattle.bits.specs.Sets.{rising, member}
use Rattle.bits.specs.Places.{places}
use Rattle.bits.proofs.Members.{member_left}
use Rattle.bits.proofs.Leaving.{moved_up, bits_parted, parted_sound}
use Rattle.bits.proofs.set.Bits.parted.Goals as goal
use Rattle.bits.proofs.set.Bits.parted.Goals.{After-kept-p11}

abbrev after : After-kept-p11 → List ℕ
after c = c.kept-p0.result ∷ c.kept-p1.result ∷ c.kept-p2.result ∷ c.kept-p3.result ∷ c.kept-p4.result ∷ c.kept-p5.result ∷ c.kept-p6.result ∷ c.kept-p7.result ∷ c.kept-p8.result ∷ c.kept-p9.result ∷ c.kept-p10.result ∷ c.kept-p11.result ∷ []

is : (c : After-kept-p11) → after c ≡ moved_up c.args.out (places c.self.inside)
is c = cc

pub invariant_of-result : goal.invariant_of-result
invariant_of-result c = parted_sound c.self.inside c.args.out c.args.self.now (after c) c.self.view_is c.self.invariant (is c) c.requires

pub returns-clause-set : goal.returns-clause-set
returns-clause-set c =
    let d = (goal.at.returns-clause-set c).After-kept-p11 in
    bits_parted d.self.inside d.args.out d.args.self.now (after d) d.self.view_is d.self.invariant (is d) d.requires

pub returns-clause-bits : goal.returns-clause-bits
returns-clause-bits c =
    let d = (goal.at.returns-clause-bits c).After-kept-p11 in
    (parted_sound d.self.inside d.args.out d.args.self.now (after d) d.self.view_is d.self.invariant (is d) d.requires).bits

pub returns-clause-members : goal.returns-clause-members
returns-clause-members c =
    let d = (goal.at.returns-clause-members c).After-kept-p11 in
    λ b. ap (member b) (bits_parted d.self.inside d.args.out d.args.self.now (after d) d.self.view_is d.self.invariant (is d) d.requires)
    ∙ member_left d.args.out b d.args.self.now (ap rising (sym d.self.view_is) ∙ d.self.invariant.bits.rises)
