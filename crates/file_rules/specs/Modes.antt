-- Access, exclusion and positioning by their codes, and when two opens exclude each other.
use Rattle.std.specs.Prelude.{◌≡◌, ℕ, Bool, true, false, cond, ◌&&◌, ◌||◌, Some, None, Option, Result, ok_or, ◌==◌}
use Rattle.file_rules.specs.declared.modes.AccessMode.{AccessMode}
use Rattle.file_rules.specs.declared.modes.AccessMode.TheVariants.{ReadWrite, ReadOnly, WriteOnly}
use Rattle.file_rules.specs.declared.modes.ExclusionMode.{ExclusionMode}
use Rattle.file_rules.specs.declared.modes.ExclusionMode.TheVariants.{Shared, Exclusive, Protected}
use Rattle.file_rules.specs.declared.modes.PositioningMode.{PositioningMode}
use Rattle.file_rules.specs.declared.modes.PositioningMode.TheVariants.{Approximate, Generic, Exact}
use Rattle.file_rules.specs.declared.modes.UnknownCode.{UnknownCode}

abbrev pub access_of : ℕ → Option AccessMode
access_of n = cond (n == 0) (Some ReadWrite) (cond (n == 1) (Some ReadOnly) (cond (n == 2) (Some WriteOnly) None))

abbrev pub exclusion_of : ℕ → Option ExclusionMode
exclusion_of n = cond (n == 0) (Some Shared) (cond (n == 1) (Some Exclusive) (cond (n == 3) (Some Protected) None))

abbrev pub positioning_of : ℕ → Option PositioningMode
positioning_of n = cond (n == 0) (Some Approximate) (cond (n == 1) (Some Generic) (cond (n == 2) (Some Exact) None))

-- the result is the mode that the code names, or an error with the code where it names none
abbrev pub DecodesBy : {A : Type 0} → (ℕ → Option A) → ℕ → Result A UnknownCode → Type 0
DecodesBy mode_of code r = r ≡ ok_or (mode_of code) (record { 0 = code })

abbrev pub may_read : AccessMode → Bool
may_read ReadWrite = true
may_read ReadOnly = true
may_read WriteOnly = false

abbrev pub may_write : AccessMode → Bool
may_write ReadWrite = true
may_write ReadOnly = false
may_write WriteOnly = true

abbrev pub is_exclusive : ExclusionMode → Bool
is_exclusive Shared = false
is_exclusive Exclusive = true
is_exclusive Protected = false

abbrev pub is_protected : ExclusionMode → Bool
is_protected Shared = false
is_protected Exclusive = false
is_protected Protected = true

-- either is exclusive, or one is protected and the other may write
abbrev pub excluding : AccessMode → ExclusionMode → AccessMode → ExclusionMode → Bool
excluding a e b f = is_exclusive e || is_exclusive f || (is_protected e && may_write b) || (is_protected f && may_write a)

abbrev pub ExclusionSymmetric : Type 0
ExclusionSymmetric = (a b : AccessMode) (e f : ExclusionMode) → excluding a e b f ≡ excluding b f a e
