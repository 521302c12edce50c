-- The law of runs. Assumes nothing.
use Rattle.std.proofs.Common.{◌≡◌, ℕ, zero, suc, ◌-◌, Bool, true, false, cond, ◌⊎◌, List, [], ◌∷◌, ◌++◌, length, drop, Some, None, Option, Less, sym, refl, ap, ◌∙◌, subst, inl, inr, true≢false, arith}
use Rattle.std.proofs.lemmas.Option.{same_Some}
use Rattle.std.proofs.lemmas.Bool.{both_ways, or_cases}
use Rattle.std.specs.Option.{option_map}
use Rattle.std.specs.List.Sorted.{IsStrictlySortedBy}
use Rattle.std.specs.List.{AllByRecursion}
use Rattle.byte_strings.specs.Bytes.{Bytes, order, below, same}
use Rattle.byte_strings.proofs.TotalOrder.{below_less, below_neither, below_not_same, same_cases, same-flip, is_same}
use Rattle.storage.specs.Pairs.{under}
use Rattle.file_rules.specs.declared.description.AlternateKey.{AlternateKey}
use Rattle.file_rules.specs.Calls.{Call, KEYPOSITION, READ, Answer, KeyPosition, Read, is, number, count, buffer}
use Rattle.file_rules.specs.Checks.{given}
use Rattle.file_rules.specs.Descriptions.{Description, key_len, nth_key}
use Rattle.file_rules.specs.Files.{Entry, PlainFile, entry_of, own}
use Rattle.file_rules.specs.Paths.{alternate_string, path_string}
use Rattle.file_rules.specs.Refusals.{refusal}
use Rattle.file_rules.specs.Steps.{Event, moved_to, positioned, effect, step, event, trace}
use Rattle.file_rules.specs.Subsets.{Found, within, subset, lowest}
use Rattle.file_laws.specs.Events.{positions, delivers, exhausts}
use Rattle.file_laws.specs.Runs.{Run, exhausted, strings_read, times_read, Keeps, Along, RunHolds, RunLaw}
use Rattle.file_laws.specs.Sound.{PairFits, Sound}
use Rattle.file_laws.proofs.CallForms.{form}
use Rattle.file_laws.proofs.Chains.{cut_at}
use Rattle.file_laws.proofs.Deliveries.{read_of}
use Rattle.file_laws.proofs.Events.{numbered-same, own_is, accepted, accepted_step, saw_parts, keeps, ended}
use Rattle.file_laws.proofs.Members.{In, all_in, all_weaker, in_from_under}
use Rattle.file_laws.proofs.Refusals.{clear, is_open}
use Rattle.file_laws.proofs.Rows.{drop-front}
use Rattle.file_laws.proofs.Sorting.{test_from_sorted}
use Rattle.file_laws.proofs.Soundness.{stays_sound}
use Rattle.file_laws.proofs.Subsets.{Low, in_subset, subset_in, lowest_low, lowest_none, within_back, within-next}

-- how many times a string stands in a list
abbrev times : Bytes → List Bytes → ℕ
times x [] = 0
times x (y ∷ ys) = cond (same y x) (suc (times x ys)) (times x ys)

times_none : (x : Bytes) (l : List Bytes) → AllByRecursion (λ y. below x y ≡ true) l → times x l ≡ 0
times_none x [] h = refl
times_none x (y ∷ ys) h = rw (same-flip x y (below_not_same x y h.0)) (times_none x ys h.1)

-- what holds from a state on where number n has the entry o: the law, told by strings
record Reading (d : Description) (n : ℕ) (o : Entry) (s : PlainFile) (es : List Event) : Type 0 where
  ascending : IsStrictlySortedBy order (strings_read n es)
  inside : AllByRecursion (λ x. within o x ≡ true) (strings_read n es)
  along : AllByRecursion (λ e. delivers n e ≡ true → Along d o n e) es
  whole : exhausted n es ≡ true → (κ x : Bytes) → within o x ≡ true → Keeps d o.path κ x s → AllByRecursion (λ e. Keeps d o.path κ x e.after) es → times x (strings_read n es) ≡ 1

-- a record that has a string of the subset belongs to the subset
kept_found : (d : Description) (s : PlainFile) (o : Entry) (κ x : Bytes) → within o x ≡ true → Keeps d o.path κ x s → (f : Found) × In f (subset d s.pairs o) × (f.string ≡ x)
kept_found d s o κ x w p =
    (record { string = x; key = κ; bytes = p.0 }, in_subset d s.pairs o (κ, p.0) x (in_from_under κ p.0 s.pairs p.1) p.2 w, refl)

module _ (d : Description) (n : ℕ) (o : Entry) (s : PlainFile) (e : Event) (es : List Event) where
  -- an event that delivers nothing to n
  passing : delivers n e ≡ false → Reading d n o e.after es → (exhausts n e ≡ true → lowest (subset d s.pairs o) ≡ None) → Reading d n o s (e ∷ es)
  passing z h k = record {
    ascending = rw z h.ascending;
    inside = rw z h.inside;
    along = ((λ t. absurd (both_ways _ z t)), h.along);
    whole = λ t κ x w p a. rw z (go κ x w p a (or_cases _ _ t));
  }
    where
      go : (κ x : Bytes) → within o x ≡ true → Keeps d o.path κ x s → Keeps d o.path κ x e.after × AllByRecursion (λ e. Keeps d o.path κ x e.after) es → (exhausts n e ≡ true) ⊎ (exhausted n es ≡ true) → times x (strings_read n es) ≡ 1
      go κ x w p a c = let f = kept_found d s o κ x w p in let t = h.whole in grind (arith, lowest_none)

  -- a READ of n
  module _ (f : Found) (z : delivers n e ≡ true) (left : own e.after n ≡ moved_to o f) (low : Low f (subset d s.pairs o)) where
    at : within o f.string ≡ true
    at = (subset_in d s.pairs o f low.0).0

    back : (x : Bytes) → within (moved_to o f) x ≡ true → (within o x ≡ true) × (below f.string x ≡ true)
    back x w = within_back o f x at w

    wider : (v : Event) → (delivers n v ≡ true → Along d (moved_to o f) n v) → delivers n v ≡ true → Along d o n v
    wider v h t = let a = h t in record { delivery = a.delivery; string = a.string; inside = (back (own v.after n).position a.inside).0 }

    gaining : Along d o n e → Reading d n (moved_to o f) e.after es → Reading d n o s (e ∷ es)
    unfolding IsStrictlySortedBy
    gaining here h = record {
      ascending = rw (z, left) (all_weaker (λ x. within (moved_to o f) x ≡ true) (λ x. order f.string x ≡ Less) (λ x w. below_less f.string x (back x w).1) (strings_read n es) h.inside, h.ascending);
      inside = rw (z, left) (at, all_weaker (λ x. within (moved_to o f) x ≡ true) (λ x. within o x ≡ true) (λ x w. (back x w).0) (strings_read n es) h.inside);
      along = ((λ _. here), all_weaker (λ v. delivers n v ≡ true → Along d (moved_to o f) n v) (λ v. delivers n v ≡ true → Along d o n v) wider es h.along);
      whole = λ t κ x w p a. rw (z, left) (go κ x w p a (or_cases _ _ t));
    }
      where
        above : (κ x : Bytes) → within o x ≡ true → Keeps d o.path κ x s → same f.string x ≡ false → below f.string x ≡ true
        above κ x w p ne =
            let g = kept_found d s o κ x w p in
            let l = low.1 g.0 g.1 in
            grind (arith, is_same, below_neither)

        each : (κ x : Bytes) → within o x ≡ true → Keeps d o.path κ x s → Keeps d o.path κ x e.after × AllByRecursion (λ e. Keeps d o.path κ x e.after) es → exhausted n es ≡ true → (f.string ≡ x) ⊎ (same f.string x ≡ false) → cond (same f.string x) (suc (times x (strings_read n es))) (times x (strings_read n es)) ≡ 1
        each κ x w p a q (inl eq) =
            let t : times x (strings_read n es) ≡ 0 = times_none x (strings_read n es) (all_weaker (λ y. within (moved_to o f) y ≡ true) (λ y. below x y ≡ true) (λ y v. subst (λ u. below u y ≡ true) eq (back y v).1) (strings_read n es) h.inside) in
            rw (is_same f.string x eq, t)
        each κ x w p a q (inr ne) = rw ne (h.whole q κ x (within-next o f x at w (above κ x w p ne)) a.0 a.1)

        go : (κ x : Bytes) → within o x ≡ true → Keeps d o.path κ x s → Keeps d o.path κ x e.after × AllByRecursion (λ e. Keeps d o.path κ x e.after) es → (exhausts n e ≡ true) ⊎ (exhausted n es ≡ true) → cond (same f.string x) (suc (times x (strings_read n es))) (times x (strings_read n es)) ≡ 1
        go κ x w p a (inl q) =
            let u = (saw_parts Read n 0 e z).2 in
            let v = (saw_parts Read n 1 e q).2 in
            absurd (omega arith)
        go κ x w p a (inr q) = each κ x w p a q (same_cases f.string x)

-- ---- the induction

abbrev Goal : Description → ℕ → PlainFile → List Event → Type 0
Goal d n s es = Sound d s → (o : Entry) → entry_of s n ≡ Some o → Run n es → Reading d n o s es

module _ (d : Description) (n : ℕ) (s : PlainFile) (es : List Event) (good : Sound d s) (o : Entry) (at : entry_of s n ≡ Some o) where
  reads : (c : ℕ) (b : Bytes) → Goal d n (step d s (READ n c b)).0 es → delivers n (event d s (READ n c b)) ≡ true → Run n es → Reading d n o s (event d s (READ n c b) ∷ es)
  reads c b more z r =
      let e = accepted d s (READ n c b) (saw_parts Read n 0 (event d s (READ n c b)) z).2 in
      let t = read_of d s n c b o good at e in
      let f = t.took.got in
      let low = lowest_low (subset d s.pairs o) f t.took.hit in
      let i = subset_in d s.pairs o f low.0 in
      let w : own (step d s (READ n c b)).0 n ≡ moved_to o f = own_is (step d s (READ n c b)).0 n (moved_to o f) t.left in
      let here : Along d o n (event d s (READ n c b)) = record {
        delivery = t.delivery;
        string = (λ j. path_string d o.path (t.its_key j) (t.its_bytes j)) ∙ (i.2 ∙ ap (λ (u : Entry). Some u.position) (sym w));
        inside = ap (λ (u : Entry). within o u.position) w ∙ i.0;
      } in
      gaining d n o s (event d s (READ n c b)) es f z w low here (more (stays_sound d s (READ n c b) good) (moved_to o f) t.left r)

  passes : (c : Call) → Goal d n (step d s c).0 es → delivers n (event d s c) ≡ false → Run n (event d s c ∷ es) → Reading d n o s (event d s c ∷ es)
  passes c more z r =
      passing d n o s (event d s c) es z (more (stays_sound d s c good) o (keeps d s c n o at r.0 r.1 z) r.3) (λ q.
      let p = saw_parts Read n 1 (event d s c) q in
      let c-is : c ≡ READ n (count c) (buffer c) = form Read c p.0 ∙ ap (λ m. READ m (count c) (buffer c)) p.1 in
      ended d s n (count c) (buffer c) o at (ap (λ v. (step d s v).1.number) (sym c-is) ∙ p.2))

  one : (c : Call) → Goal d n (step d s c).0 es → Run n (event d s c ∷ es) → (b : Bool) → delivers n (event d s c) ≡ b → Reading d n o s (event d s c ∷ es)
  one c more r false z = passes c more z r
  one c more r true z =
      let p = saw_parts Read n 0 (event d s c) z in
      let c-is : c ≡ READ n (count c) (buffer c) = form Read c p.0 ∙ ap (λ m. READ m (count c) (buffer c)) p.1 in
      subst (λ v. Goal d n (step d s v).0 es → delivers n (event d s v) ≡ true → Run n es → Reading d n o s (event d s v ∷ es)) (sym c-is) (reads (count c) (buffer c)) more z r.3

core : (d : Description) (n : ℕ) (cs : List Call) (s : PlainFile) → Goal d n s (trace d s cs)
unfolding trace IsStrictlySortedBy
core d n [] s g o h r = record { ascending = tt; inside = tt; along = tt; whole = λ e. absurd (true≢false (sym e)) }
core d n (c ∷ cs) s g o h r = one d n s (trace d (step d s c).0 cs) g o h c (core d n cs (step d s c).0) r (delivers n (event d s c)) refl

-- ---- by records in place of strings

-- a path string tells its primary key
string_ends : (d : Description) (path : ℕ) (κ r η t x : Bytes) → length κ ≡ length η → path_string d path κ r ≡ Some x → path_string d path η t ≡ Some x → κ ≡ η
unfolding path_string
string_ends d zero κ r η t x l h k = same_Some κ x h ∙ sym (same_Some η x k)
string_ends d (suc i) κ r η t x l h k = go (nth_key d.alternates i) h k
  where
    ending : (o : Option Bytes) (θ : Bytes) → option_map (λ v. v ++ θ) o ≡ Some x → drop (length x - length θ) x ≡ θ
    ending o θ e = grind (arith, drop-front)

    go : (o : Option AlternateKey) → alternate_string o κ r ≡ Some x → alternate_string o η t ≡ Some x → κ ≡ η
    go o h k = grind (arith, ending)

module _ (d : Description) (o : Entry) (n : ℕ) (κ x : Bytes) where
  key_length_of : (s : PlainFile) (η t : Bytes) → Sound d s → under η s.pairs ≡ Some t → length η ≡ key_len d
  key_length_of s η t g p = (all_in (PairFits d) (η, t) s.pairs g.pairs (in_from_under η t s.pairs p)).keyed

  -- a READ left κ as the current key just where it left x as the position
  read_by_record : (s : PlainFile) (c : Call) → Sound d s → Keeps d o.path κ x s → Along d o n (event d s c) → given (own (step d s c).0 n).current (same κ) ≡ same (own (step d s c).0 n).position x
  read_by_record s c g p a = ap (λ u. given u (same κ)) a.delivery.current ∙ go (same_cases κ a.delivery.key) (same_cases (own (step d s c).0 n).position x)
    where
      together : κ ≡ a.delivery.key → (own (step d s c).0 n).position ≡ x
      together e =
          let same_bytes : a.delivery.bytes ≡ p.0 = same_Some a.delivery.bytes p.0 (sym a.delivery.present ∙ (ap (λ η. under η s.pairs) (sym e) ∙ p.1)) in
          same_Some _ x (sym a.string ∙ ((λ j. path_string d o.path (sym e j) (same_bytes j)) ∙ p.2))

      apart : (own (step d s c).0 n).position ≡ x → κ ≡ a.delivery.key
      apart e =
          string_ends d o.path κ p.0 a.delivery.key a.delivery.bytes x
          (key_length_of s κ p.0 g p.1 ∙ sym (key_length_of s a.delivery.key a.delivery.bytes g a.delivery.present))
          p.2 (a.string ∙ ap Some e)

      go : (κ ≡ a.delivery.key) ⊎ (same κ a.delivery.key ≡ false) → ((own (step d s c).0 n).position ≡ x) ⊎ (same (own (step d s c).0 n).position x ≡ false) → same κ a.delivery.key ≡ same (own (step d s c).0 n).position x
      go v w = grind (arith, is_same, together, apart)

  by_records : (cs : List Call) (s : PlainFile) → Sound d s → Keeps d o.path κ x s → AllByRecursion (λ e. Keeps d o.path κ x e.after) (trace d s cs) → AllByRecursion (λ e. delivers n e ≡ true → Along d o n e) (trace d s cs) → times_read n κ (trace d s cs) ≡ times x (strings_read n (trace d s cs))
  unfolding trace
  by_records [] s g p a l = refl
  by_records (c ∷ cs) s g p a l = go (delivers n (event d s c)) refl (by_records cs (step d s c).0 (stays_sound d s c g) a.0 a.1 l.1)
    where
      rest : List Event
      rest = trace d (step d s c).0 cs

      go : (b : Bool) → delivers n (event d s c) ≡ b → times_read n κ rest ≡ times x (strings_read n rest) → times_read n κ (event d s c ∷ rest) ≡ times x (strings_read n (event d s c ∷ rest))
      go false z i = rw z i
      go true z i = rw z (λ j. cond (read_by_record s c g p (l.0 z) j) (suc (i j)) (i j))

-- ---- the KEYPOSITION

position_of : (d : Description) (s : PlainFile) (n p m : ℕ) (k : Bool) (c : ℕ) (v : Bytes) → refusal d s (KEYPOSITION n p m k c v) ≡ None → (o : Entry) × (entry_of (step d s (KEYPOSITION n p m k c v)).0 n ≡ Some o)
unfolding effect
position_of d s n p m k c v e = (
  positioned d (own s n) (record { path = p; mode = m; skip = k; compare = c; value = v }),
  ap (λ (z : PlainFile × Answer). entry_of z.0 n) (accepted_step d s (KEYPOSITION n p m k c v) e)
      ∙ numbered-same s.entries n _ (is_open d s (KEYPOSITION n p m k c v) (clear d s (KEYPOSITION n p m k c v) e) refl),
)

positioned_entry : (d : Description) (s : PlainFile) (c : Call) → is KeyPosition c ≡ true → refusal d s c ≡ None → (o : Entry) × (entry_of (step d s c).0 (number c) ≡ Some o)
positioned_entry d s c i =
    let f = form KeyPosition c i in
    let p = f.0 in
    subst (λ z. refusal d s z ≡ None → (o : Entry) × (entry_of (step d s z).0 (number c) ≡ Some o)) (sym f.1) (position_of d s (number c) p.path p.mode p.skip p.compare p.value)

entry_named : (d : Description) (s : PlainFile) (n : ℕ) (c : Call) → positions n (event d s c) ≡ true → (o : Entry) × (entry_of (event d s c).after n ≡ Some o)
entry_named d s n c z =
    let p = saw_parts KeyPosition n 0 (event d s c) z in
    let q = positioned_entry d s c p.0 (accepted d s c p.2) in
    (q.0, ap (entry_of (step d s c).0) (sym p.1) ∙ q.1)

run_holds : (d : Description) (n : ℕ) (o : Entry) (s : PlainFile) (cs : List Call) → Sound d s → entry_of s n ≡ Some o → Run n (trace d s cs) → RunHolds d n o s (trace d s cs)
run_holds d n o s cs g at r =
    let h = core d n cs s g o at r in
    record {
      ascending = test_from_sorted (strings_read n (trace d s cs)) h.ascending;
      along = h.along;
      whole = λ t κ x w p a. by_records d o n κ x cs s g p a h.along ∙ h.whole t κ x w p a;
    }

pub run_law : (d : Description) (s : PlainFile) (cs : List Call) → Sound d s → RunLaw d (trace d s cs)
run_law d s cs g n front run back k e z r =
    let p = cut_at d s cs front run back k g e in
    let q = subst (λ (v : Event). positions n v ≡ true → (o : Entry) × (entry_of v.after n ≡ Some o)) (sym p.is_step) (entry_named d p.from n k.call) z in
    let go : Run n run → RunHolds d n q.0 k.after run = subst (λ es. Run n es → RunHolds d n q.0 k.after es) (sym p.is_trace) (run_holds d n q.0 k.after p.calls p.sound q.1) in
    subst (λ o. RunHolds d n o k.after run) (sym (own_is k.after n q.0 q.1)) (go r)
