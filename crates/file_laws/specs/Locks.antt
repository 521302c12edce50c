-- The law of locks.
--     releases     an accepted CLOSE or UNLOCKFILE of n, or an accepted UNLOCKREC of n for the key
--     Spared       a call delivers, places, replaces and removes nothing under the key
use Rattle.std.specs.Prelude.{◌≡◌, ℕ, Bool, true, false, ◌&&◌, ◌||◌, List, ◌∷◌, ◌++◌, Some, ◌≢◌}
use Rattle.std.specs.List.{AllByRecursion}
use Rattle.byte_strings.specs.Bytes.{Bytes, same}
use Rattle.storage.specs.Pairs.{under}
use Rattle.file_rules.specs.Calls.{UnlockFile, UnlockRec, number}
use Rattle.file_rules.specs.Checks.{given}
use Rattle.file_rules.specs.Descriptions.{Description}
use Rattle.file_rules.specs.Files.{own}
use Rattle.file_rules.specs.Keys.{key_in_question}
use Rattle.file_rules.specs.Steps.{Event}
use Rattle.file_laws.specs.Events.{saw, closes, locks, has_read, has_written}

abbrev pub releases : ℕ → Bytes → Event → Bool
releases n κ e = closes n e || saw UnlockFile n 0 e || (saw UnlockRec n 0 e && given (own e.before n).current (same κ))

pub record Spared (d : Description) (κ : Bytes) (e : Event) : Type 0 where
  -- what is delivered stands under the key that is left as the current key
  pub unread : has_read e ≡ true → (own e.after (number e.call)).current ≢ Some κ
  -- what is written goes under the key in question
  pub unwritten : has_written e ≡ true → key_in_question d e.before e.call ≢ Some κ
  pub unchanged : under κ e.after.pairs ≡ under κ e.before.pairs

abbrev pub LockLaw : Description → List Event → Type 0
LockLaw d events =
    (n : ℕ) (κ : Bytes) (front held back : List Event) (k : Event) → events ≡ front ++ (k ∷ (held ++ back)) →
    locks n k ≡ true → (own k.before n).current ≡ Some κ → AllByRecursion (λ e. releases n κ e ≡ false) held →
    AllByRecursion (λ e. (number e.call ≢ n) → Spared d κ e) held
