-- Which records a subset has, which of them is the lowest, and what is left of the subset behind a string of it.
-- Assumes nothing.
use Rattle.std.proofs.Common.{◌≡◌, ℕ, Bool, true, false, cond, List, [], ◌∷◌, is_some, Some, None, Option, refl, ap, subst, inl, inr, true≢false, arith}
use Rattle.std.proofs.lemmas.Option.{same_Some, none-some}
use Rattle.std.proofs.lemmas.Bool.{and_parts, and_from}
use Rattle.byte_strings.specs.Bytes.{Bytes, below}
use Rattle.byte_strings.proofs.TotalOrder.{below-trans, below_irrefl, below-asym, not_below_trans, same_is, is_same}
use Rattle.storage.specs.declared.mark.PositionMark.{PositionMark}
use Rattle.storage.specs.declared.mark.PositionMark.TheVariants.{At, Beyond}
use Rattle.storage.specs.Pairs.{reached}
use Rattle.file_rules.specs.declared.modes.PositioningMode.{PositioningMode}
use Rattle.file_rules.specs.Descriptions.{Description}
use Rattle.file_rules.specs.Files.{Entry}
use Rattle.file_rules.specs.Paths.{path_string}
use Rattle.file_rules.specs.Steps.{moved_to}
use Rattle.file_rules.specs.Subsets.{Found, strings, agrees, within, subset, lower, lowest}
use Rattle.file_laws.proofs.Members.{In, kept_in, in_kept}

-- ---- the strings of the pairs

module _ (d : Description) (path : ℕ) where
  strings_in : (ps : List (Bytes × Bytes)) (f : Found) → In f (strings d path ps) → In (f.key, f.bytes) ps × (path_string d path f.key f.bytes ≡ Some f.string)
  unfolding strings
  strings_in [] f h = absurd h
  strings_in (p ∷ ps) f h = let k = strings_in ps f in grind arith

  in_strings : (ps : List (Bytes × Bytes)) (p : Bytes × Bytes) (x : Bytes) → In p ps → path_string d path p.0 p.1 ≡ Some x → In (record { string = x; key = p.0; bytes = p.1 }) (strings d path ps)
  unfolding strings
  in_strings [] p x h e = absurd h
  in_strings (q ∷ ps) p x h e = let k : In p ps → In (record { string = x; key = p.0; bytes = p.1 }) (strings d path ps) = λ i. in_strings ps p x i e in grind arith

module _ (d : Description) (ps : List (Bytes × Bytes)) (o : Entry) where
  pub in_subset : (p : Bytes × Bytes) (x : Bytes) → In p ps → path_string d o.path p.0 p.1 ≡ Some x → within o x ≡ true → In (record { string = x; key = p.0; bytes = p.1 }) (subset d ps o)
  unfolding subset
  in_subset p x i e w = in_kept (λ f. within o f.string) (strings d o.path ps) (record { string = x; key = p.0; bytes = p.1 }) (in_strings d o.path ps p x i e) w

  pub subset_in : (f : Found) → In f (subset d ps o) → (within o f.string ≡ true) × In (f.key, f.bytes) ps × (path_string d o.path f.key f.bytes ≡ Some f.string)
  unfolding subset
  subset_in f h =
      let k = kept_in (λ g. within o g.string) (strings d o.path ps) f h in
      let i = strings_in d o.path ps f k.0 in
      (k.1, i.0, i.1)

-- ---- the lowest

abbrev pub Low : Found → List Found → Type 0
Low f l = In f l × ((g : Found) → In g l → below g.string f.string ≡ false)

low_more : (f : Found) (l : List Found) (o : Option Found) → lowest l ≡ o → ((g : Found) → lowest l ≡ Some g → Low g l) → (lowest l ≡ None → l ≡ []) → Low (lower f o) (f ∷ l)
low_more f l None e k n = (inl refl, λ g h. let q = n e in grind (arith, below_irrefl))
low_more f l (Some m) e k n = go (below m.string f.string) refl (k m e)
  where
    go : (b : Bool) → below m.string f.string ≡ b → Low m l → Low (cond b m f) (f ∷ l)
    go true q h = (inr h.0, λ g i. let w = h.1 g in grind (arith, below-asym))
    go false q h = (inl refl, λ g i. let w = h.1 g in grind (arith, below_irrefl, not_below_trans))

pub lowest_none : (l : List Found) → lowest l ≡ None → l ≡ []
unfolding lowest
lowest_none [] h = refl
lowest_none (f ∷ l) h = absurd (true≢false (ap is_some h))

pub lowest_low : (l : List Found) (f : Found) → lowest l ≡ Some f → Low f l
unfolding lowest
lowest_low [] f h = absurd (none-some f h)
lowest_low (g ∷ l) f h = subst (λ z. Low z (g ∷ l)) (same_Some (lower g (lowest l)) f h) (low_more g l (lowest l) refl (lowest_low l) (lowest_none l))

-- ---- behind a string of the subset

reached_on : (m : PositionMark) (p y x : Bytes) → reached m p y ≡ true → below y x ≡ true → reached m p x ≡ true
reached_on Beyond p y x h k = below-trans p y x h k
reached_on At p y x h k = grind (arith, below-trans)

module _ (c : ℕ) (p y x : Bytes) where
  agrees_on : (m : PositioningMode) → agrees m c p y ≡ true → agrees m c y x ≡ true → agrees m c p x ≡ true
  agrees_on m h k = grind (arith, is_same, same_is)

  agrees_back : (m : PositioningMode) → agrees m c p y ≡ true → agrees m c p x ≡ true → agrees m c y x ≡ true
  agrees_back m h k = grind (arith, is_same, same_is)

module _ (o : Entry) (f : Found) (x : Bytes) (at : within o f.string ≡ true) where
  -- past a string of the subset stand only strings of it
  pub within_back : within (moved_to o f) x ≡ true → (within o x ≡ true) × (below f.string x ≡ true)
  unfolding within
  within_back h =
      let p = and_parts _ _ at in
      let q = and_parts _ _ h in
      (and_from _ _ (reached_on o.mark o.position f.string x p.0 q.0) (agrees_on o.compare o.position f.string x o.mode p.1 q.1), q.0)

  pub within-next : within o x ≡ true → below f.string x ≡ true → within (moved_to o f) x ≡ true
  unfolding within
  within-next h k =
      let p = and_parts _ _ at in
      let q = and_parts _ _ h in
      and_from _ _ k (agrees_back o.compare o.position f.string x o.mode p.1 q.1)
