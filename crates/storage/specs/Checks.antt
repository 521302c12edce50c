-- Refusals as one list in checking order, each a test and the fault that it answers.
--     first      the fault of the first test that holds
--     settled    what the call answers then
--     leaves     what the call leaves: accepted the changed value, refused the one before
use Rattle.std.specs.Prelude.{Bool, cond, List, [], ◌∷◌, Some, None, Ok, Err, Option, Result}

module _ {F : Type 0} where
  abbrev pub first : List (Bool × F) → Option F
  first [] = None
  first (c ∷ cs) = cond c.0 (Some c.1) (first cs)

  abbrev pub settled : Option F → Result (Unit {0}) F
  settled None = Ok tt
  settled (Some fault) = Err fault

  abbrev pub leaves : {A : Type 0} → Result (Unit {0}) F → A → A → A
  leaves (Ok u) changed before = changed
  leaves (Err fault) changed before = before
