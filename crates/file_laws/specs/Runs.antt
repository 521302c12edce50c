-- The law of runs.
--     Run             calls that follow an accepted KEYPOSITION of n and belong to its run: none of them is n's next
--                     accepted KEYPOSITION or CLOSE, and none comes after n's first READ answered 1
--     strings_read    the path strings that n's READs delivered, each left as n's position
--     times_read      how many of n's READs delivered the record under a key, left as n's current key
--     Keeps           the record under a key has that path string
use Rattle.std.specs.Prelude.{◌≡◌, ℕ, suc, Bool, true, false, cond, ◌&&◌, ◌||◌, List, [], ◌∷◌, ◌++◌, Some}
use Rattle.std.specs.List.{AllByRecursion}
use Rattle.byte_strings.specs.Bytes.{Bytes, same}
use Rattle.storage.specs.Pairs.{Ascending, under}
use Rattle.file_rules.specs.Checks.{given}
use Rattle.file_rules.specs.Descriptions.{Description}
use Rattle.file_rules.specs.Files.{Entry, PlainFile, own}
use Rattle.file_rules.specs.Paths.{path_string}
use Rattle.file_rules.specs.Steps.{Event}
use Rattle.file_rules.specs.Subsets.{within}
use Rattle.file_laws.specs.Deliveries.{Delivery}
use Rattle.file_laws.specs.Events.{closes, positions, delivers, exhausts}

abbrev pub Run : ℕ → List Event → Type 0
Run n [] = Unit {0}
Run n (e ∷ es) = (positions n e ≡ false) × (closes n e ≡ false) × (exhausts n e ≡ true → es ≡ []) × Run n es

-- the run ends with the answer 1
abbrev pub exhausted : ℕ → List Event → Bool
exhausted n [] = false
exhausted n (e ∷ es) = exhausts n e || exhausted n es

abbrev pub strings_read : ℕ → List Event → List Bytes
strings_read n [] = []
strings_read n (e ∷ es) = cond (delivers n e) ((own e.after n).position ∷ strings_read n es) (strings_read n es)

abbrev pub times_read : ℕ → Bytes → List Event → ℕ
times_read n κ [] = 0
times_read n κ (e ∷ es) = cond (delivers n e && given (own e.after n).current (same κ)) (suc (times_read n κ es)) (times_read n κ es)

abbrev pub Keeps : Description → ℕ → Bytes → Bytes → PlainFile → Type 0
Keeps d path κ x s = (r : Bytes) × (under κ s.pairs ≡ Some r) × (path_string d path κ r ≡ Some x)

-- a READ of n delivered a record present at that moment, whose path string lies in the subset that the KEYPOSITION
-- named by the entry o which it left
pub record Along (d : Description) (o : Entry) (n : ℕ) (e : Event) : Type 0 where
  pub delivery : Delivery n e
  pub string : path_string d o.path delivery.key delivery.bytes ≡ Some (own e.after n).position
  pub inside : within o (own e.after n).position ≡ true

-- the run that follows a KEYPOSITION which left the entry o and the state s
pub record RunHolds (d : Description) (n : ℕ) (o : Entry) (s : PlainFile) (run : List Event) : Type 0 where
  pub ascending : Ascending (strings_read n run)
  pub along : AllByRecursion (λ e. delivers n e ≡ true → Along d o n e) run
  -- where the run ends with 1, each record that all the while kept one path string in the subset was read exactly once
  pub whole : exhausted n run ≡ true → (κ x : Bytes) → within o x ≡ true → Keeps d o.path κ x s → AllByRecursion (λ e. Keeps d o.path κ x e.after) run → times_read n κ run ≡ 1

abbrev pub RunLaw : Description → List Event → Type 0
RunLaw d events =
    (n : ℕ) (front run back : List Event) (k : Event) → events ≡ front ++ (k ∷ (run ++ back)) → positions n k ≡ true → Run n run →
    RunHolds d n (own k.after n) k.after run
