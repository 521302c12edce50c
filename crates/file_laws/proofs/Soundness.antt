-- Every call leaves a sound state sound. Assumes nothing.
use Rattle.std.proofs.Common.{◌≡◌, ℕ, pred, ◌≤◌, Bool, true, false, cond, not, ◌&&◌, eqb, ltb, leb, List, length, take, is_some, Some, None, Option, sym, refl, ap, ◌∙◌, subst, arith}
use Rattle.std.proofs.lemmas.List.Elements.{All-from_recursion, recursion_from_All, All-set}
use Rattle.std.proofs.lemmas.List.{length-set}
use Rattle.std.proofs.lemmas.Bool.{or_parts, not_from_false, not-false, eqb-false, leb-false, ltb-false}
use Rattle.std.specs.List.{AllByRecursion}
use Rattle.byte_strings.specs.Bytes.{Bytes}
use Rattle.storage.specs.Pairs.{Ascending, keys, total, under, placed, replaced, without}
use Rattle.storage.specs.Primary.{no_room}
use Rattle.storage.proofs.Figures.{length-placed, length-replaced}
use Rattle.storage.proofs.OwnPair.{placed_ascending, replaced_ascending, removed_ascending}
use Rattle.file_rules.specs.declared.fault.CallFault.{CallFault}
use Rattle.file_rules.specs.Calls.{Call, OPEN, CLOSE, KEYPOSITION, READ, READUPDATE, WRITE, WRITEUPDATE, LOCKFILE, UNLOCKFILE, LOCKREC, UNLOCKREC, LOCKINFO}
use Rattle.file_rules.specs.Checks.{given, cuts_key, clash_under}
use Rattle.file_rules.specs.Descriptions.{Description, key_len, shape_of}
use Rattle.file_rules.specs.Files.{Entry, PlainFile, entry_of, own, with_entry, with_pairs, with_locks}
use Rattle.file_rules.specs.Keys.{new_key, key_in_question, written_under, written}
use Rattle.file_rules.specs.Paths.{fresh_rows}
use Rattle.file_rules.specs.Refusals.{refusal}
use Rattle.file_rules.specs.Steps.{others_locks, let_go, lock_taken, lock_released, moved_to, read_next, effect, step}
use Rattle.file_rules.specs.Subsets.{Found, subset, next_record}
use Rattle.file_laws.specs.Sound.{IfAny, EntryFits, PairFits, LockFits, UniqueOnce, Sound, StaysSound}
use Rattle.file_laws.proofs.Events.{refused_step, accepted_step, own_is}
use Rattle.file_laws.proofs.Fits.{entry_fits, opened_fits, positioned_fits, string_fits, record_length, key_fits}
use Rattle.file_laws.proofs.Members.{some_of, none_of, all_in}
use Rattle.file_laws.proofs.PairLists.{all_placed, all_replaced, all_without, length_without, total_without, all_others, length_others, ascending_others}
use Rattle.file_laws.proofs.Refusals.{Clear, clear, low, high, is_open, roomy, and_second}
use Rattle.file_laws.proofs.Subsets.{subset_in, lowest_low}
use Rattle.file_laws.proofs.Uniques.{once_placed, once_replaced, once_without}

-- ---- one part changes

-- what holds of the pairs
pub record SoundPairs (d : Description) (ps : List (Bytes × Bytes)) : Type 0 where
  pub ordered : Ascending (keys ps)
  pub pairs : AllByRecursion (PairFits d) ps
  pub records : length ps ≤ d.record_limit
  pub bytes : total ps ≤ d.byte_limit

module _ (d : Description) (s : PlainFile) (h : Sound d s) where
  sound_entry : (n : ℕ) (e : Option Entry) → IfAny (EntryFits d) e → Sound d (with_entry s n e)
  sound_entry n e f = record {
    ordered = h.ordered;
    pairs = h.pairs;
    unique = h.unique;
    records = h.records;
    bytes = h.bytes;
    rows = h.rows;
    eight = length-set s.entries (pred n) e ∙ h.eight;
    entries =
        let fits = IfAny (EntryFits d) in
        recursion_from_All fits _ (All-set fits s.entries (pred n) e f (All-from_recursion fits s.entries h.entries));
    locked = h.locked;
    few = h.few;
    locks = h.locks;
  }

  sound_locks : (f : Option ℕ) (ls : List (Bytes × ℕ)) → Ascending (keys ls) → length ls ≤ 32 → AllByRecursion (LockFits d) ls → Sound d (with_locks s f ls)
  sound_locks f ls a l k = record {
    ordered = h.ordered;
    pairs = h.pairs;
    unique = h.unique;
    records = h.records;
    bytes = h.bytes;
    rows = h.rows;
    eight = h.eight;
    entries = h.entries;
    locked = a;
    few = l;
    locks = k;
  }

  sound_pairs : (ps : List (Bytes × Bytes)) → SoundPairs d ps → UniqueOnce d.alternates ps → length (fresh_rows d ps) ≤ d.row_limit → Sound d (with_pairs s ps)
  sound_pairs ps p u r = record {
    ordered = p.ordered;
    pairs = p.pairs;
    unique = u;
    records = p.records;
    bytes = p.bytes;
    rows = r;
    eight = h.eight;
    entries = h.entries;
    locked = h.locked;
    few = h.few;
    locks = h.locks;
  }

  sound_let_go : (n : ℕ) → Sound d (let_go s n)
  sound_let_go n =
      sound_locks _ (others_locks n s.record_locks) (ascending_others n s.record_locks h.locked)
      (omega (arith, length_others n s.record_locks, h.few)) (all_others n (LockFits d) s.record_locks h.locks)

  -- the entry of an open number
  own_fits : (n : ℕ) → is_some (entry_of s n) ≡ true → EntryFits d (own s n)
  own_fits n o =
      let p = some_of (entry_of s n) o in
      subst (EntryFits d) (sym (own_is s n p.0 p.1)) (entry_fits d s.entries n p.0 h.entries p.1)

  current_fits : (n : ℕ) (κ : Bytes) → is_some (entry_of s n) ≡ true → (own s n).current ≡ Some κ → length κ ≡ key_len d
  current_fits n κ o e = subst (IfAny (λ κ. length κ ≡ key_len d)) e (own_fits n o).current

  -- ---- READ

  sound_read : (n c : ℕ) (b : Bytes) (o : Option Found) → next_record d s n ≡ o → is_some (entry_of s n) ≡ true → Sound d (read_next s n c b o).0
  unfolding next_record
  sound_read n c b None e i = h
  sound_read n c b (Some f) e i =
      let q = subset_in d s.pairs (own s n) f (lowest_low (subset d s.pairs (own s n)) f e).0 in
      let k = all_in (PairFits d) (f.key, f.bytes) s.pairs h.pairs q.1 in
      let o = own_fits n i in
      sound_entry n (Some (moved_to (own s n) f)) (record {
        path = o.path;
        compare = o.compare;
        position = string_fits d (own s n).path f.key f.bytes f.string k.keyed q.2;
        current = k.keyed;
      })

  -- ---- locks

  sound_taken : (n : ℕ) (o : Option Bytes) → 1 ≤ n → n ≤ 8 → IfAny (λ κ. length κ ≡ key_len d) o → (not (given o (λ κ. is_some (under κ s.record_locks))) && leb 32 (length s.record_locks)) ≡ false → Sound d (with_locks s s.file_lock (lock_taken n o s.record_locks))
  sound_taken n None l g f x = h
  sound_taken n (Some κ) l g f x = go (under κ s.record_locks) refl
    where
      go : (u : Option ℕ) → under κ s.record_locks ≡ u → Sound d (with_locks s s.file_lock (lock_taken n (Some κ) s.record_locks))
      go None e =
          let room = leb-false _ _ (and_second _ _ (not_from_false _ (ap is_some e)) x) in
          rw (e, lock_taken) (sound_locks s.file_lock (placed κ n s.record_locks) (placed_ascending κ n s.record_locks h.locked e)
          (rw (length-placed κ n s.record_locks) room)
          (all_placed κ (LockFits d) n s.record_locks (record { keyed = f; low = l; high = g }) h.locks))
      go (Some m) e = rw (e, lock_taken) h

  sound_released : (n : ℕ) (o : Option Bytes) → Sound d (with_locks s s.file_lock (lock_released n o s.record_locks))
  sound_released n None = h
  sound_released n (Some κ) =
      let w = sound_locks s.file_lock (without κ s.record_locks) (removed_ascending κ s.record_locks h.locked)
      (omega (arith, length_without κ s.record_locks, h.few)) (all_without κ (LockFits d) s.record_locks h.locks) in
      grind arith

  -- ---- writes

  new_key_fits : (n c : ℕ) (b : Bytes) → c ≤ length b → cuts_key d.organization c ≡ false → is_some (entry_of s n) ≡ true → (o : Option Bytes) → new_key d s n (take c b) ≡ o → IfAny (λ κ. length κ ≡ key_len d) o
  unfolding new_key
  new_key_fits n c b l k i o e = let f = key_fits d c b l d.organization s.pairs in grind (arith, current_fits)

  sound_placed : (n c : ℕ) (b : Bytes) (o : Option Bytes) → 1 ≤ length (take c b) → length (take c b) ≤ d.longest → IfAny (λ κ. length κ ≡ key_len d) o →
      given o (λ κ. is_some (under κ s.pairs)) ≡ false → is_some (clash_under d s (take c b) o) ≡ false → given o (λ κ. no_room (shape_of d) s.pairs κ (take c b)) ≡ false →
      length (fresh_rows d (written_under (WRITE n c b) s.pairs o)) ≤ d.row_limit → Sound d (with_pairs s (written_under (WRITE n c b) s.pairs o))
  sound_placed n c b None l g f new u room rows = h
  sound_placed n c b (Some κ) l g f new u room rows =
      let r = take c b in
      let absent = none_of (under κ s.pairs) new in
      let p = or_parts _ _ room in
      let q = or_parts _ _ p.0 in
      sound_pairs (placed κ r s.pairs) (record {
        ordered = placed_ascending κ r s.pairs h.ordered absent;
        pairs = all_placed κ (PairFits d) r s.pairs (record { keyed = f; some = l; short = g }) h.pairs;
        records = rw (length-placed κ r s.pairs) (leb-false _ _ q.0);
        bytes = ltb-false _ _ q.1;
      })
      (once_placed d.alternates κ r s.pairs h.unique absent u) rows

  sound_write : (n c : ℕ) (b : Bytes) → Clear d s (WRITE n c b) → Sound d (with_pairs s (written d s (WRITE n c b)))
  unfolding written key_in_question
  sound_write n c b k =
      let a = or_parts _ _ (or_parts _ _ k.argued).0 in
      let z = or_parts _ _ a.1 in
      let l = roomy d s (WRITE n c b) k in
      let m = record_length d c b l in
      let some : c ≡ 0 → ⊥ = eqb-false c 0 a.0 in
      let g : c ≤ d.longest = ltb-false d.longest c z.0 in
      sound_placed n c b (new_key d s n (take c b)) (omega arith) (omega arith)
      (new_key_fits n c b l (and_second _ _ (not_from_false _ a.0) z.1) (is_open d s (WRITE n c b) k refl) (new_key d s n (take c b)) refl)
      k.new k.unique (or_parts _ _ k.fits).0 (ltb-false _ _ k.rows_fit)

  abbrev updated : Bytes → Bytes → Bool → List (Bytes × Bytes)
  updated κ r z = cond (not z) (replaced κ r s.pairs) (without κ s.pairs)

  sound_updated : (κ r : Bytes) (z : Bool) → (z ≡ false → PairFits d (κ, r)) → is_some (under κ s.pairs) ≡ true → is_some (cond (not z) (clash_under d s r (Some κ)) None) ≡ false →
      (not z && ltb d.byte_limit (total (updated κ r z))) ≡ false → length (fresh_rows d (updated κ r z)) ≤ d.row_limit → Sound d (with_pairs s (updated κ r z))
  sound_updated κ r true f there u room rows =
      sound_pairs (without κ s.pairs) (record {
        ordered = removed_ascending κ s.pairs h.ordered;
        pairs = all_without κ (PairFits d) s.pairs h.pairs;
        records = omega (arith, length_without κ s.pairs, h.records);
        bytes = omega (arith, total_without κ s.pairs, h.bytes);
      })
      (once_without d.alternates κ s.pairs h.unique) rows
  sound_updated κ r false f there u room rows =
      sound_pairs (replaced κ r s.pairs) (record {
        ordered = replaced_ascending κ r s.pairs h.ordered;
        pairs = all_replaced κ (PairFits d) r s.pairs (f refl) h.pairs;
        records = rw (length-replaced κ r s.pairs) h.records;
        bytes = ltb-false _ _ room;
      })
      (once_replaced d.alternates κ r s.pairs h.unique there u) rows

  sound_update : (n c : ℕ) (b : Bytes) → Clear d s (WRITEUPDATE n c b) → Sound d (with_pairs s (written d s (WRITEUPDATE n c b)))
  unfolding written key_in_question
  sound_update n c b k = go (own s n).current refl (not-false _ k.standing) k.unique k.fits (ltb-false _ _ k.rows_fit)
    where
      go : (o : Option Bytes) → (own s n).current ≡ o → given o (λ κ. is_some (under κ s.pairs)) ≡ true →
          is_some (cond (not (eqb c 0)) (clash_under d s (take c b) o) None) ≡ false →
          (not (eqb c 0) && ltb d.byte_limit (total (written_under (WRITEUPDATE n c b) s.pairs o))) ≡ false →
          length (fresh_rows d (written_under (WRITEUPDATE n c b) s.pairs o)) ≤ d.row_limit →
          Sound d (with_pairs s (written_under (WRITEUPDATE n c b) s.pairs o))
      go None e there u room rows = h
      go (Some κ) e there u room rows =
          sound_updated κ (take c b) (eqb c 0) (λ z.
          let l = record_length d c b (roomy d s (WRITEUPDATE n c b) k) in
          let some : c ≡ 0 → ⊥ = eqb-false c 0 z in
          let g : c ≤ d.longest = ltb-false d.longest c (or_parts _ _ k.argued).0 in
          record { keyed = current_fits n κ (is_open d s (WRITEUPDATE n c b) k refl) e; some = omega arith; short = omega arith })
          there u room rows

-- ---- the calls

effect_sound : (d : Description) (s : PlainFile) (c : Call) → Sound d s → Clear d s c → Sound d (effect d s c).0
unfolding effect key_in_question
effect_sound d s (OPEN n a e) h k = sound_entry d s h n _ (opened_fits d a e)
effect_sound d s (CLOSE n) h k = sound_entry d (let_go s n) (sound_let_go d s h n) n None tt
effect_sound d s (KEYPOSITION n p m t c v) h k =
    sound_entry d s h n _ (positioned_fits d (own s n) (record { path = p; mode = m; skip = t; compare = c; value = v }) k.with_path (or_parts _ _ (or_parts _ _ k.argued).0).0)
effect_sound d s (READ n c b) h k = sound_read d s h n c b (next_record d s n) refl (is_open d s (READ n c b) k refl)
effect_sound d s (READUPDATE n c b) h k = h
effect_sound d s (WRITE n c b) h k = sound_write d s h n c b k
effect_sound d s (WRITEUPDATE n c b) h k = sound_update d s h n c b k
effect_sound d s (LOCKFILE n) h k = sound_locks d s h (Some n) s.record_locks h.locked h.few h.locks
effect_sound d s (UNLOCKFILE n) h k = sound_let_go d s h n
effect_sound d s (LOCKREC n) h k =
    sound_taken d s h n (own s n).current (low d s (LOCKREC n) k) (high d s (LOCKREC n) k) (own_fits d s h n (is_open d s (LOCKREC n) k refl)).current k.lockable
effect_sound d s (UNLOCKREC n) h k = sound_released d s h n (own s n).current
effect_sound d s (LOCKINFO n b) h k = h

pub stays_sound : StaysSound
stays_sound d s c h = go (refusal d s c) refl
  where
    go : (r : Option CallFault) → refusal d s c ≡ r → Sound d (step d s c).0
    go (Some r) e = rw (refused_step d s c r e) h
    go None e = rw (accepted_step d s c e) (effect_sound d s c h (clear d s c e))
