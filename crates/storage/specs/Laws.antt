-- Laws of a list of pairs, in the words of the rules.
--     has                has a list a key
--     FindsLowest        what is found is the lowest key that is reached, and none is found only where none is
--     ChangesOwnPair     placing, replacing and removing alter what stands under their own key and nothing else
--     KeepsOrder         after each of them the keys ascend strictly again
use Rattle.std.specs.Prelude.{◌≡◌, Bool, true, false, ◌||◌, List, [], ◌∷◌, is_some, Some, None}
use Rattle.byte_strings.specs.Bytes.{Bytes, below, same}
use Rattle.storage.specs.declared.mark.PositionMark.{PositionMark}
use Rattle.storage.specs.Pairs.{Ascending, keys, reached, next, under, placed, replaced, without}

abbrev pub has : Bytes → List Bytes → Bool
has x [] = false
has x (k ∷ ks) = same k x || has x ks

pub record LowestFound (mark : PositionMark) (from : Bytes) (ks : List Bytes) : Type 0 where
  pub none : next mark from ks ≡ None → (k : Bytes) → has k ks ≡ true → reached mark from k ≡ false
  pub one_of_them : (x : Bytes) → next mark from ks ≡ Some x → has x ks ≡ true
  pub is_reached : (x : Bytes) → next mark from ks ≡ Some x → reached mark from x ≡ true
  pub lowest : (x : Bytes) → next mark from ks ≡ Some x → (k : Bytes) → has k ks ≡ true → reached mark from k ≡ true → below k x ≡ false

abbrev pub FindsLowest : Type 0
FindsLowest = (mark : PositionMark) (from : Bytes) (ks : List Bytes) → Ascending ks → LowestFound mark from ks

pub record OwnPairChanged (κ bytes : Bytes) (ps : List (Bytes × Bytes)) : Type 0 where
  pub placed_here : under κ ps ≡ None → under κ (placed κ bytes ps) ≡ Some bytes
  pub replaced_here : is_some (under κ ps) ≡ true → under κ (replaced κ bytes ps) ≡ Some bytes
  pub removed_here : under κ (without κ ps) ≡ None
  pub placed_elsewhere : (η : Bytes) → same κ η ≡ false → under η (placed κ bytes ps) ≡ under η ps
  pub replaced_elsewhere : (η : Bytes) → same κ η ≡ false → under η (replaced κ bytes ps) ≡ under η ps
  pub removed_elsewhere : (η : Bytes) → same κ η ≡ false → under η (without κ ps) ≡ under η ps

abbrev pub ChangesOwnPair : Type 0
ChangesOwnPair = (κ bytes : Bytes) (ps : List (Bytes × Bytes)) → OwnPairChanged κ bytes ps

pub record OrderKept (κ bytes : Bytes) (ps : List (Bytes × Bytes)) : Type 0 where
  pub placed_ascend : under κ ps ≡ None → Ascending (keys (placed κ bytes ps))
  pub replaced_ascend : Ascending (keys (replaced κ bytes ps))
  pub removed_ascend : Ascending (keys (without κ ps))

abbrev pub KeepsOrder : Type 0
KeepsOrder = (κ bytes : Bytes) (ps : List (Bytes × Bytes)) → Ascending (keys ps) → OrderKept κ bytes ps
