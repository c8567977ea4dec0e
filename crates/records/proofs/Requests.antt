-- What a record asks for depends on what it says alone.
use Rattle.std.proofs.Common.{◌≡◌, Bool, true, false, length, Ok, Err, Result, if◌then◌else◌, refl}
use Rattle.std.specs.Prelude.{◌==◌, nat_lt}
use Rattle.records.specs.Requests.{open_body, put_routed_body, put_bridge_body, strike_body, choose_body, request_of}
use Rattle.records.specs.declared.record.Record.{Record}
use Rattle.records.specs.declared.refusal.Refusal.{Refusal}
use Rattle.records.specs.declared.request.Request.{Request}
use Rattle.records.specs.declared.request.Request.TheVariants.{OpenRouted, OpenBridge, Put, Strike, Choose, LookUp}

-- two requests that ask the same: only where a packet's bytes lie in memory may differ
abbrev pub SameRequest : Result Request Refusal → Result Request Refusal → Type 0
SameRequest (Ok (LookUp packet)) (Ok (LookUp other)) = other.now ≡ packet.now
SameRequest asked other = other ≡ asked

-- a request asks the same as itself
same : (asked : Result Request Refusal) → SameRequest asked asked
same (Ok (OpenRouted lines)) = refl
same (Ok (OpenBridge lines)) = refl
same (Ok (Put line row)) = refl
same (Ok (Strike line)) = refl
same (Ok (Choose judge limits)) = refl
same (Ok (LookUp packet)) = refl
same (Err refusal) = refl

-- by one test on both
by_test : (b : Bool) (x x' y y' : Result Request Refusal) → SameRequest x x' → SameRequest y y' → SameRequest (if b then x else y) (if b then x' else y')
by_test true x x' y y' s t = s
by_test false x x' y y' s t = t

pub same_request : (this other : Record) → other.kind ≡ this.kind → other.body.now ≡ this.body.now → SameRequest (request_of this) (request_of other)
same_request this other kind body =
    rw (kind, body)
    (by_test (this.kind == 1) _ _ _ _ (same (put_routed_body this.body.now))
    (by_test (this.kind == 2) _ _ _ _ (same (put_bridge_body this.body.now))
    (by_test (this.kind == 3) _ _ _ _ (same (strike_body this.body.now))
    (by_test (this.kind == 4) _ _ _ _ (same (choose_body this.body.now))
    (by_test (this.kind == 5) _ _ _ _ (by_test (nat_lt 2048 (length this.body.now)) _ _ _ _ refl refl)
    (by_test (this.kind == 6) _ _ _ _ (same (open_body this.body.now)) refl))))))
