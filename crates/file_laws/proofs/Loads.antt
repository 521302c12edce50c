-- A file that was loaded from empty and put in service is sound. Assumes nothing.
use Rattle.std.proofs.Common.{◌≡◌, ℕ, ◌≤◌, true, false, cond, List, [], ◌∷◌, length, take, replicate, Some, None, Option, sym, refl, ap, ◌∙◌, subst, true≢false, arith}
use Rattle.std.proofs.lemmas.Bool.{or_parts, eqb-false, leb-false, ltb-false, not_from_false}
use Rattle.byte_strings.specs.Bytes.{Bytes}
use Rattle.storage.specs.Checks.{first}
use Rattle.storage.specs.Pairs.{total, under, placed}
use Rattle.storage.specs.Primary.{is_relative}
use Rattle.storage.proofs.Figures.{length-placed}
use Rattle.storage.proofs.OwnPair.{placed_ascending}
use Rattle.file_rules.specs.declared.description.Organization.{Organization}
use Rattle.file_rules.specs.declared.description.Organization.TheVariants.{Relative, EntrySequenced, KeySequenced}
use Rattle.file_rules.specs.declared.fault.CallFault.{CallFault}
use Rattle.file_rules.specs.Descriptions.{Description, kind_of, key_length}
use Rattle.file_rules.specs.Files.{PlainFile, empty, in_service}
use Rattle.file_rules.specs.Keys.{append_key}
use Rattle.file_rules.specs.Loads.{LoadCall, LOAD, ENDLOAD, load_key, load_checks, end_checks, load_settled, load_step, loaded}
use Rattle.file_laws.specs.Laws.{ServedSound}
use Rattle.file_laws.specs.Sound.{PairFits, Sound}
use Rattle.file_laws.proofs.Fits.{record_length, key_fits}
use Rattle.file_laws.proofs.Members.{none_of}
use Rattle.file_laws.proofs.PairLists.{all_placed}
use Rattle.file_laws.proofs.Refusals.{passed, and_second}
use Rattle.file_laws.proofs.Soundness.{SoundPairs}
use Rattle.file_laws.proofs.Uniques.{once_of_any}

-- a file under load: no number open, no lock held
record Filling (d : Description) (s : PlainFile) : Type 0 where
  loading : s.under_load ≡ true
  pairs : SoundPairs d s.pairs
  shut : s.entries ≡ replicate 8 None
  unlocked : s.record_locks ≡ []

append_length : (g : Organization) → is_relative (kind_of g) ≡ true → length append_key ≡ key_length g
append_length Relative h = refl
append_length EntrySequenced h = absurd (true≢false (sym h))
append_length (KeySequenced f) h = absurd (true≢false (sym h))

module _ (d : Description) (s : PlainFile) (h : Filling d s) where
  placing : (c : ℕ) (b : Bytes) → first (load_checks d s c b) ≡ None → SoundPairs d (placed (load_key d s (take c b)) (take c b) s.pairs)
  unfolding load_checks
  placing c b e =
      let a = passed (load_checks d s c b) e in
      let κ = load_key d s (take c b) in
      let counted = or_parts _ _ a.0 in
      let sized = or_parts _ _ counted.1 in
      let room : c ≤ length b = ltb-false (length b) c a.1.0 in
      let m = record_length d c b room in
      let some : c ≡ 0 → ⊥ = eqb-false c 0 counted.0 in
      let short : c ≤ d.longest = ltb-false d.longest c sized.0 in
      let absent = none_of (under κ s.pairs) a.1.1.0 in
      let full = or_parts _ _ (or_parts _ _ a.1.1.1.0).0 in
      record {
        ordered = placed_ascending κ (take c b) s.pairs h.pairs.ordered absent;
        pairs = all_placed κ (PairFits d) (take c b) s.pairs (record {
          keyed = key_fits d c b room d.organization s.pairs append_key (and_second _ _ (not_from_false _ counted.0) sized.1) (append_length d.organization);
          some = omega arith;
          short = omega arith;
        }) h.pairs.pairs;
        records = rw (length-placed κ (take c b) s.pairs) (leb-false _ _ full.0);
        bytes = ltb-false _ _ full.1;
      }

  load_fills : (c : ℕ) (b : Bytes) → Filling d (load_step d s (LOAD c b)).0
  unfolding load_step
  load_fills c b = go (first (load_checks d s c b)) refl
    where
      go : (r : Option CallFault) → first (load_checks d s c b) ≡ r → Filling d (load_settled d s (LOAD c b) r).0
      go (Some r) e = h
      go None e = record { loading = h.loading; pairs = placing c b e; shut = h.shut; unlocked = h.unlocked }

  ended_sound : first (end_checks d s) ≡ None → Sound d (in_service s)
  unfolding end_checks
  ended_sound e =
      let a = passed (end_checks d s) e in
      record {
        ordered = h.pairs.ordered;
        pairs = h.pairs.pairs;
        unique = once_of_any d.alternates s.pairs a.0;
        records = h.pairs.records;
        bytes = h.pairs.bytes;
        rows = ltb-false _ _ a.1.0;
        eight = ap length h.shut;
        entries = rw h.shut (tt, (tt, (tt, (tt, (tt, (tt, (tt, (tt, tt))))))));
        locked = rw h.unlocked tt;
        few = rw h.unlocked (omega arith);
        locks = rw h.unlocked tt;
      }

-- a file in service takes no call of the load
loaded-served : (d : Description) (s : PlainFile) (cs : List LoadCall) → s.under_load ≡ false → loaded d s cs ≡ s
unfolding loaded
loaded-served d s [] h = refl
loaded-served d s (c ∷ cs) h = ap (λ b. cond b (loaded d (load_step d s c).0 cs) s) h

loaded-more : (d : Description) (s : PlainFile) (c : LoadCall) (cs : List LoadCall) → s.under_load ≡ true → loaded d s (c ∷ cs) ≡ loaded d (load_step d s c).0 cs
unfolding loaded
loaded-more d s c cs h = ap (λ b. cond b (loaded d (load_step d s c).0 cs) s) h

-- what the call leads to is sound once it is in service
abbrev Leads : Description → PlainFile → List LoadCall → Type 0
Leads d s cs = (loaded d s cs).under_load ≡ false → Sound d (loaded d s cs)

first_call : (d : Description) (s : PlainFile) (c : LoadCall) (cs : List LoadCall) → s.under_load ≡ true → Leads d (load_step d s c).0 cs → Leads d s (c ∷ cs)
first_call d s c cs h more =
    subst (λ (z : PlainFile). z.under_load ≡ false → Sound d z) (sym (loaded-more d s c cs h)) more

end_leads : (d : Description) (s : PlainFile) (cs : List LoadCall) → Filling d s → Leads d s cs → Leads d (load_step d s ENDLOAD).0 cs
unfolding load_step
end_leads d s cs h more = go (first (end_checks d s)) refl
  where
    go : (r : Option CallFault) → first (end_checks d s) ≡ r → Leads d (load_settled d s ENDLOAD r).0 cs
    go (Some r) q e = more e
    go None q e = subst (Sound d) (sym (loaded-served d (in_service s) cs refl)) (ended_sound d s h q)

loaded_sound : (d : Description) (cs : List LoadCall) (s : PlainFile) → Filling d s → Leads d s cs
unfolding loaded
loaded_sound d [] s h e = absurd (true≢false (sym h.loading ∙ e))
loaded_sound d (LOAD c b ∷ cs) s h e = first_call d s (LOAD c b) cs h.loading (loaded_sound d cs (load_step d s (LOAD c b)).0 (load_fills d s h c b)) e
loaded_sound d (ENDLOAD ∷ cs) s h e = first_call d s ENDLOAD cs h.loading (end_leads d s cs h (loaded_sound d cs s h)) e

pub served_sound : ServedSound
unfolding total
served_sound d s v =
    subst (Sound d) v.state
    (loaded_sound d v.loads empty (record {
      loading = refl;
      pairs = record { ordered = tt; pairs = tt; records = omega arith; bytes = omega arith };
      shut = refl;
      unlocked = refl;
    })
    (ap (λ (z : PlainFile). z.under_load) v.state ∙ v.ended))
