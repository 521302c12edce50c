-- What one event does to a file number. Assumes nothing.
use Rattle.std.proofs.Common.{◌≡◌, ℕ, zero, suc, pred, ◌≤◌, Bool, true, false, List, [], ◌∷◌, length, set, is_some, Some, None, Option, unwrap_or, sym, refl, ap, ◌∙◌, true≢false, arith}
use Rattle.std.specs.Option.{option_map}
use Rattle.std.proofs.lemmas.List.{get_or-set_same, get_or-set_other, get_or_past}
use Rattle.std.proofs.lemmas.Bool.{both_ways, and_parts, and_from, eqb-true, eq-eqb, cases_lt}
use Rattle.byte_strings.specs.Bytes.{Bytes}
use Rattle.file_rules.specs.declared.fault.CallFault.{CallFault}
use Rattle.file_rules.specs.declared.modes.AccessMode.TheVariants.{ReadWrite}
use Rattle.file_rules.specs.declared.modes.ExclusionMode.TheVariants.{Shared}
use Rattle.file_rules.specs.Calls.{Call, READ, Answer, CallName, Open, Close, KeyPosition, Read, is, one_of, number, count, buffer}
use Rattle.file_rules.specs.Checks.{in_use}
use Rattle.file_rules.specs.Descriptions.{Description}
use Rattle.file_rules.specs.Files.{Entry, PlainFile, numbered, entry_of, own, just_opened, with_entry}
use Rattle.file_rules.specs.Keys.{key_in_question}
use Rattle.file_rules.specs.Refusals.{refusal}
use Rattle.file_rules.specs.Steps.{Event, refused, delivered, moved_to, read_next, effect, settled_by, step, event}
use Rattle.file_rules.specs.Subsets.{Found, subset, lowest, next_record}
use Rattle.file_laws.specs.Events.{saw}
use Rattle.file_laws.proofs.Refusals.{nonzero, told_empty, clear, low}

-- ---- the entries

pub numbered-same : (es : List (Option Entry)) (n : ℕ) (e : Option Entry) → is_some (numbered es n) ≡ true → numbered (set es (pred n) e) n ≡ e
unfolding numbered
numbered-same es zero e h = absurd (true≢false (sym h))
numbered-same es (suc n) e h = let o = cases_lt n (length es) in grind (arith, get_or-set_same, get_or_past)

pub numbered-other : (es : List (Option Entry)) (n m : ℕ) (e : Option Entry) → 1 ≤ m → (m ≡ n → ⊥) → numbered (set es (pred m) e) n ≡ numbered es n
unfolding numbered
numbered-other es zero m e l a = refl
numbered-other es (suc n) zero e l a = absurd (omega arith)
numbered-other es (suc n) (suc m) e l a = get_or-set_other es m n e None (λ q. a (ap suc (sym q)))

pub own_is : (s : PlainFile) (n : ℕ) (o : Entry) → entry_of s n ≡ Some o → own s n ≡ o
own_is s n o h = ap (λ z. unwrap_or z (just_opened ReadWrite Shared)) h

-- ---- refused and accepted

pub refused_step : (d : Description) (s : PlainFile) (c : Call) (r : CallFault) → refusal d s c ≡ Some r → step d s c ≡ (s, refused r (buffer c))
unfolding step
refused_step d s c r h = ap (settled_by d s c) h

pub accepted_step : (d : Description) (s : PlainFile) (c : Call) → refusal d s c ≡ None → step d s c ≡ effect d s c
unfolding step
accepted_step d s c h = ap (settled_by d s c) h

-- an accepted call answers 0
pub effect-zero : (d : Description) (s : PlainFile) (c : Call) → (effect d s c).1.number ≡ 0
unfolding effect
effect-zero d s c = grind arith

pub accepted_zero : (d : Description) (s : PlainFile) (c : Call) → refusal d s c ≡ None → (step d s c).1.number ≡ 0
accepted_zero d s c h = ap (λ (z : PlainFile × Answer). z.1.number) (accepted_step d s c h) ∙ effect-zero d s c

-- a call that answers 0 was accepted
pub accepted : (d : Description) (s : PlainFile) (c : Call) → (step d s c).1.number ≡ 0 → refusal d s c ≡ None
accepted d s c h = grind (arith, nonzero, refused_step)

pub saw_parts : (m : CallName) (n a : ℕ) (e : Event) → saw m n a e ≡ true → (is m e.call ≡ true) × (number e.call ≡ n) × (e.answer.number ≡ a)
saw_parts m n a e h =
    let p = and_parts _ _ h in
    let q = and_parts _ _ p.0 in
    (q.0, eqb-true _ _ q.1, eqb-true _ _ p.1)

pub saw-from : (m : CallName) (n a : ℕ) (e : Event) → is m e.call ≡ true → number e.call ≡ n → e.answer.number ≡ a → saw m n a e ≡ true
saw-from m n a e p q r = and_from _ _ (and_from _ _ p (eq-eqb _ _ q)) (eq-eqb _ _ r)

-- ---- a number that a call does not move

abbrev moves : Call → Bool
moves c = one_of (Open ∷ Close ∷ KeyPosition ∷ Read ∷ []) c

effect_keeps : (d : Description) (s : PlainFile) (c : Call) (n : ℕ) (o : Entry) → entry_of s n ≡ Some o → 1 ≤ number c → (number c ≡ n → moves c ≡ true → ⊥) → entry_of (effect d s c).0 n ≡ Some o
unfolding effect
effect_keeps d s c n o h l x = grind (arith, numbered-other)

unused_shut : (s : PlainFile) (c : Call) → is Open c ≡ true → in_use s c ≡ false → is_some (entry_of s (number c)) ≡ false
unused_shut s c e h = grind arith

one_moves : (c : Call) → (is Open c ≡ true → ⊥) → (is Close c ≡ true → ⊥) → (is KeyPosition c ≡ true → ⊥) → (is Read c ≡ true → ⊥) → moves c ≡ true → ⊥
one_moves c o p q r h = grind arith

pub keeps : (d : Description) (s : PlainFile) (c : Call) (n : ℕ) (o : Entry) → entry_of s n ≡ Some o → saw KeyPosition n 0 (event d s c) ≡ false → saw Close n 0 (event d s c) ≡ false → saw Read n 0 (event d s c) ≡ false → entry_of (step d s c).0 n ≡ Some o
keeps d s c n o h a b r = go (refusal d s c) refl
  where
    go : (q : Option CallFault) → refusal d s c ≡ q → entry_of (step d s c).0 n ≡ Some o
    go (Some q) e = ap (λ (z : PlainFile × Answer). entry_of z.0 n) (refused_step d s c q e) ∙ h
    go None e =
        let k = clear d s c e in
        let z = accepted_zero d s c e in
        ap (λ (z : PlainFile × Answer). entry_of z.0 n) (accepted_step d s c e)
        ∙ effect_keeps d s c n o h (low d s c k) (λ m.
        let off : (x : CallName) → saw x n 0 (event d s c) ≡ false → is x c ≡ true → ⊥ = λ x f t. both_ways (saw x n 0 (event d s c)) f (saw-from x n 0 (event d s c) t m z) in
        one_moves c (λ t. both_ways (is_some (entry_of s (number c))) (unused_shut s c t k.unused) (ap (λ j. is_some (entry_of s j)) m ∙ ap is_some h))
        (off Close b) (off KeyPosition a) (off Read r))

-- ---- a number that READ moves

pub record Took (d : Description) (s : PlainFile) (n count : ℕ) (buffer : Bytes) (o : Entry) : Type 0 where
  pub got : Found
  pub hit : lowest (subset d s.pairs o) ≡ Some got
  pub after : (step d s (READ n count buffer)).0 ≡ with_entry s n (Some (moved_to o got))
  pub answer : (step d s (READ n count buffer)).1 ≡ delivered got.bytes count buffer

pub took : (d : Description) (s : PlainFile) (n count : ℕ) (b : Bytes) (o : Entry) → entry_of s n ≡ Some o → refusal d s (READ n count b) ≡ None → Took d s n count b o
unfolding effect key_in_question next_record
took d s n count b o h e = go (next_record d s n) refl
  where
    go : (f : Option Found) → next_record d s n ≡ f → Took d s n count b o
    go None q = let k = clear d s (READ n count b) e in let l = k.left in grind arith
    go (Some f) q =
        let w = own_is s n o h in
        let t : step d s (READ n count b) ≡ (with_entry s n (Some (moved_to o f)), delivered f.bytes count b) = accepted_step d s (READ n count b) e ∙ ap (read_next s n count b) q ∙ ap (λ z. read_at z) w in
        record { got = f; hit = ap (λ z. lowest (subset d s.pairs z)) (sym w) ∙ q; after = ap (λ (z : PlainFile × Answer). z.0) t; answer = ap (λ (z : PlainFile × Answer). z.1) t }
      where
        read_at : Entry → PlainFile × Answer
        read_at z = (with_entry s n (Some (moved_to z f)), delivered f.bytes count b)

empty_next : (o : Option Found) → is_some (option_map (λ (f : Found). f.key) o) ≡ false → o ≡ None
empty_next o h = grind arith

-- READ answered 1 where nothing is left of the subset
pub ended : (d : Description) (s : PlainFile) (n count : ℕ) (b : Bytes) (o : Entry) → entry_of s n ≡ Some o → (step d s (READ n count b)).1.number ≡ 1 → lowest (subset d s.pairs o) ≡ None
unfolding key_in_question next_record
ended d s n count b o h a = grind (arith, accepted_zero, refused_step, own_is, empty_next, told_empty)
