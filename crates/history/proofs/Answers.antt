-- A call as it is told: it was refused and left all as it was, or it did what it does.
use Rattle.std.proofs.Common.{◌≡◌, ◌⊎◌, inl, inr, Result, Ok, Err, refl}
use Rattle.table.specs.Calls.{Memory, Untouched, Answers}
use Rattle.table.specs.declared.refusal.Refusal.{Refusal}
use Rattle.table.proofs.Calls.{err_ok}

module _ {Row A F : Type 0} (tell : Refusal → F) (Does : A → Type 0) (found left : Memory Row) where
  pub record Did (v : Result (Unit {0}) Refusal) (r : Result A F) : Type 0 where
    pub answer : A
    pub passed : v ≡ Ok tt
    pub is : r ≡ Ok answer
    pub does : Does answer

  pub record WasRefused (v : Result (Unit {0}) Refusal) (r : Result A F) : Type 0 where
    pub refusal : Refusal
    pub failed : v ≡ Err refusal
    pub is : r ≡ Err (tell refusal)
    pub kept : Untouched refusal found left

  err_is : {one other : F} → one ≡ other → ◌≡◌ {A = Result A F} (Err one) (Err other)
  err_is e = cc

  pub was_refused : (v : Result (Unit {0}) Refusal) (fault : F) → Answers tell Does found left v (Err fault) → WasRefused v (Err fault)
  was_refused (Ok _) fault a = absurd a
  was_refused (Err refusal) fault a = record { refusal = refusal; failed = refl; is = err_is a.0; kept = a.1 }

  pub cases : (v : Result (Unit {0}) Refusal) (r : Result A F) → Answers tell Does found left v r → Did v r ⊎ WasRefused v r
  cases (Ok _) (Ok x) a = inl (record { answer = x; passed = refl; is = refl; does = a })
  cases v (Err fault) a = inr (was_refused v fault a)
  cases (Err refusal) (Ok x) a = absurd a

  -- a call whose checks all pass isn't refused
  pub not_refused : (v : Result (Unit {0}) Refusal) (fault : F) → v ≡ Ok tt → Answers tell Does found left v (Err fault) → ⊥
  not_refused (Ok _) fault e a = a
  not_refused (Err refusal) fault e a = err_ok e

  -- and one that isn't did what it does
  pub did : (v : Result (Unit {0}) Refusal) (x : A) → Answers tell Does found left v (Ok x) → (v ≡ Ok tt) × Does x
  did (Ok _) x a = (refl, a)
  did (Err refusal) x a = absurd a
