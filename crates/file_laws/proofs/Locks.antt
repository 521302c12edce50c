-- The law of locks. Assumes nothing.
use Rattle.std.proofs.Common.{◌≡◌, ℕ, Bool, true, false, ◌&&◌, ◌||◌, eqb, List, [], ◌∷◌, Some, None, Option, sym, refl, ap, ◌∙◌, subst, arith}
use Rattle.std.proofs.lemmas.Bool.{and_parts, eqb-true, not-false}
use Rattle.std.proofs.lemmas.Bool.Decides.{nat_tests}
use Rattle.std.specs.List.{AllByRecursion}
use Rattle.byte_strings.specs.Bytes.{Bytes, same}
use Rattle.byte_strings.proofs.TotalOrder.{same_cases, is_same}
use Rattle.storage.specs.Pairs.{under}
use Rattle.storage.proofs.OwnPair.{placed_here, placed_elsewhere, replaced_elsewhere, removed_elsewhere}
use Rattle.file_rules.specs.Calls.{Call, READ, READUPDATE, LOCKREC, Answer, Close, UnlockFile, LockRec, UnlockRec, is, reads, number, count, buffer}
use Rattle.file_rules.specs.Checks.{given, anothers}
use Rattle.file_rules.specs.Descriptions.{Description}
use Rattle.file_rules.specs.Files.{PlainFile, entry_of, own}
use Rattle.file_rules.specs.Keys.{key_in_question, written_under, written}
use Rattle.file_rules.specs.Refusals.{refusal}
use Rattle.file_rules.specs.Steps.{Event, moved_to, lock_taken, lock_released, read_next, effect, step, event, trace}
use Rattle.file_rules.specs.Subsets.{Found, next_record}
use Rattle.file_laws.specs.Events.{locks}
use Rattle.file_laws.specs.Locks.{releases, Spared, LockLaw}
use Rattle.file_laws.specs.Sound.{Sound}
use Rattle.file_laws.proofs.CallForms.{form, by_read}
use Rattle.file_laws.proofs.Chains.{cut_at}
use Rattle.file_laws.proofs.Events.{numbered-same, own_is, refused_step, accepted_step, accepted_zero, accepted, saw_parts, took}
use Rattle.file_laws.proofs.Members.{some_of}
use Rattle.file_laws.proofs.PairLists.{under-others}
use Rattle.file_laws.proofs.Refusals.{Clear, clear, is_open}

-- ---- another's key is in no accepted call's question

not_anothers : (n m : ℕ) → anothers m (Some n) ≡ false → m ≡ n
not_anothers n m h = sym (eqb-true n m (not-false (eqb n m) h))

untouched : (d : Description) (s : PlainFile) (c : Call) (n : ℕ) (κ : Bytes) → under κ s.record_locks ≡ Some n → (number c ≡ n → ⊥) → Clear d s c → key_in_question d s c ≡ Some κ → ⊥
untouched d s c n κ h a k e =
    let f : anothers (number c) (under κ s.record_locks) ≡ false = ap (λ o. given o (λ η. anothers (number c) (under η s.record_locks))) (sym e) ∙ k.free in
    a (not_anothers n (number c) (ap (anothers (number c)) (sym h) ∙ f))

-- ---- what stands under the key

spared_by_write : (c : Call) (ps : List (Bytes × Bytes)) (o : Option Bytes) (κ : Bytes) → (o ≡ Some κ → ⊥) → under κ (written_under c ps o) ≡ under κ ps
spared_by_write c ps None κ x = refl
spared_by_write c ps (Some η) κ x = let o = same_cases η κ in grind (arith, placed_elsewhere, replaced_elsewhere, removed_elsewhere)

read_pairs : (s : PlainFile) (n c : ℕ) (b : Bytes) (o : Option Found) → (read_next s n c b o).0.pairs ≡ s.pairs
read_pairs s n c b None = refl
read_pairs s n c b (Some f) = refl

effect_spares : (d : Description) (s : PlainFile) (c : Call) (κ : Bytes) → (key_in_question d s c ≡ Some κ → ⊥) → under κ (effect d s c).0.pairs ≡ under κ s.pairs
unfolding effect written
effect_spares d s c κ x = grind (arith, read_pairs, spared_by_write)

-- ---- what is read

next_in_question : (d : Description) (s : PlainFile) (n c : ℕ) (b κ : Bytes) → refusal d s (READ n c b) ≡ None → (own (step d s (READ n c b)).0 n).current ≡ Some κ → key_in_question d s (READ n c b) ≡ Some κ
unfolding key_in_question next_record
next_in_question d s n c b κ e h =
    let open-now = is_open d s (READ n c b) (clear d s (READ n c b) e) refl in
    let p = some_of (entry_of s n) open-now in
    let t = took d s n c b p.0 p.1 e in
    let left : entry_of (step d s (READ n c b)).0 n ≡ Some (moved_to p.0 t.got) = ap (λ z. entry_of z n) t.after ∙ numbered-same s.entries n (Some (moved_to p.0 t.got)) open-now in
    let w = own_is (step d s (READ n c b)).0 n (moved_to p.0 t.got) left in
    let hit = t.hit in
    let mine = own_is s n p.0 p.1 in
    grind arith

current_in_question : (d : Description) (s : PlainFile) (n c : ℕ) (b κ : Bytes) → refusal d s (READUPDATE n c b) ≡ None → (own (step d s (READUPDATE n c b)).0 n).current ≡ Some κ → key_in_question d s (READUPDATE n c b) ≡ Some κ
unfolding effect key_in_question
current_in_question d s n c b κ e h = ap (λ (z : PlainFile × Answer). (own z.0 n).current) (sym (accepted_step d s (READUPDATE n c b) e)) ∙ h

-- an accepted read leaves the key in question as the current key
read_in_question : (d : Description) (s : PlainFile) (c : Call) (κ : Bytes) → reads c ≡ true → refusal d s c ≡ None → (own (step d s c).0 (number c)).current ≡ Some κ → key_in_question d s c ≡ Some κ
read_in_question d s c κ i =
    by_read (λ z. refusal d s z ≡ None → (own (step d s z).0 (number c)).current ≡ Some κ → key_in_question d s z ≡ Some κ) c i
    (next_in_question d s (number c) (count c) (buffer c) κ) (current_in_question d s (number c) (count c) (buffer c) κ)

spared : (d : Description) (s : PlainFile) (c : Call) (n : ℕ) (κ : Bytes) → under κ s.record_locks ≡ Some n → (number c ≡ n → ⊥) → Spared d κ (event d s c)
spared d s c n κ h a = record {
  unread = λ i e. let p = and_parts _ _ i in let z = accepted d s c (eqb-true _ _ p.1) in untouched d s c n κ h a (clear d s c z) (read_in_question d s c κ p.0 z e);
  unwritten = λ i e. let p = and_parts _ _ i in untouched d s c n κ h a (clear d s c (accepted d s c (eqb-true _ _ p.1))) e;
  unchanged =
      let kept : refusal d s c ≡ None → under κ (effect d s c).0.pairs ≡ under κ s.pairs = λ e. effect_spares d s c κ (untouched d s c n κ h a (clear d s c e)) in
      grind (arith, refused_step, accepted_step);
}

-- ---- the lock stays

-- a call of n that gives the lock on κ back
abbrev lets_go : PlainFile → ℕ → Bytes → Call → Bool
lets_go s n κ c = is Close c || is UnlockFile c || (is UnlockRec c && given (own s n).current (same κ))

taken_held : (m n : ℕ) (κ : Bytes) (o : Option Bytes) (ls : List (Bytes × ℕ)) → under κ ls ≡ Some n → under κ (lock_taken m o ls) ≡ Some n
taken_held m n κ None ls h = h
taken_held m n κ (Some η) ls h = let o = same_cases η κ in grind (arith, placed_elsewhere)

released_held : (m n : ℕ) (κ : Bytes) (o : Option Bytes) (ls : List (Bytes × ℕ)) → under κ ls ≡ Some n → (m ≡ n → given o (same κ) ≡ true → ⊥) → under κ (lock_released m o ls) ≡ Some n
released_held m n κ None ls h x = h
released_held m n κ (Some η) ls h x = let o = same_cases η κ in grind (arith, nat_tests, is_same, removed_elsewhere)

read_locks : (s : PlainFile) (n c : ℕ) (b : Bytes) (o : Option Found) → (read_next s n c b o).0.record_locks ≡ s.record_locks
read_locks s n c b None = refl
read_locks s n c b (Some f) = refl

effect_held : (d : Description) (s : PlainFile) (c : Call) (n : ℕ) (κ : Bytes) → under κ s.record_locks ≡ Some n → (number c ≡ n → lets_go s n κ c ≡ true → ⊥) → under κ (effect d s c).0.record_locks ≡ Some n
unfolding effect
effect_held d s c n κ h x = grind (arith, under-others, read_locks, taken_held, released_held)

released : (e : Event) (n : ℕ) (κ : Bytes) → number e.call ≡ n → e.answer.number ≡ 0 → lets_go e.before n κ e.call ≡ true → releases n κ e ≡ true
released e n κ m z h = grind (arith, nat_tests)

stays : (d : Description) (s : PlainFile) (c : Call) (n : ℕ) (κ : Bytes) → under κ s.record_locks ≡ Some n → releases n κ (event d s c) ≡ false → under κ (step d s c).0.record_locks ≡ Some n
stays d s c n κ h x = let r = released (event d s c) n κ in grind (arith, refused_step, accepted_step, accepted_zero, effect_held)

-- ---- the LOCKREC

lock_is_taken : (n : ℕ) (κ : Bytes) (o : Option Bytes) (ls : List (Bytes × ℕ)) → o ≡ Some κ → given o (λ η. anothers n (under η ls)) ≡ false → under κ (lock_taken n o ls) ≡ Some n
lock_is_taken n κ o ls e free = grind (arith, nat_tests, placed_here)

lockrec_takes : (d : Description) (s : PlainFile) (n : ℕ) (κ : Bytes) → Clear d s (LOCKREC n) → (own s n).current ≡ Some κ → under κ (effect d s (LOCKREC n)).0.record_locks ≡ Some n
unfolding effect key_in_question
lockrec_takes d s n κ k h = lock_is_taken n κ (own s n).current s.record_locks h k.free

effect_takes : (d : Description) (s : PlainFile) (c : Call) (κ : Bytes) → is LockRec c ≡ true → Clear d s c → (own s (number c)).current ≡ Some κ → under κ (effect d s c).0.record_locks ≡ Some (number c)
effect_takes d s c κ i =
    subst (λ z. Clear d s z → (own s (number c)).current ≡ Some κ → under κ (effect d s z).0.record_locks ≡ Some (number c)) (sym (form LockRec c i)) (lockrec_takes d s (number c) κ)

lock_held : (d : Description) (s : PlainFile) (n : ℕ) (κ : Bytes) (c : Call) → locks n (event d s c) ≡ true → (own s n).current ≡ Some κ → under κ (step d s c).0.record_locks ≡ Some n
lock_held d s n κ c z h =
    let p = saw_parts LockRec n 0 (event d s c) z in
    let e = accepted d s c p.2 in
    ap (λ (z : PlainFile × Answer). under κ z.0.record_locks) (accepted_step d s c e)
    ∙ (effect_takes d s c κ p.0 (clear d s c e) (ap (λ m. (own s m).current) p.1 ∙ h) ∙ ap Some p.1)

-- ---- the induction

all_spared : (d : Description) (n : ℕ) (κ : Bytes) (cs : List Call) (s : PlainFile) → under κ s.record_locks ≡ Some n → AllByRecursion (λ e. releases n κ e ≡ false) (trace d s cs) → AllByRecursion (λ e. (number e.call ≡ n → ⊥) → Spared d κ e) (trace d s cs)
unfolding trace
all_spared d n κ [] s h a = tt
all_spared d n κ (c ∷ cs) s h a = (spared d s c n κ h, all_spared d n κ cs (step d s c).0 (stays d s c n κ h a.0) a.1)

pub lock_law : (d : Description) (s : PlainFile) (cs : List Call) → Sound d s → LockLaw d (trace d s cs)
lock_law d s cs g n κ front held back k e z h a =
    let p = cut_at d s cs front held back k g e in
    let q : under κ k.after.record_locks ≡ Some n = subst (λ (v : Event). locks n v ≡ true → (own v.before n).current ≡ Some κ → under κ v.after.record_locks ≡ Some n) (sym p.is_step) (lock_held d p.from n κ k.call) z h in
    subst (λ es. AllByRecursion (λ e. releases n κ e ≡ false) es → AllByRecursion (λ e. (number e.call ≡ n → ⊥) → Spared d κ e) es) (sym p.is_trace) (all_spared d n κ p.calls k.after q) a
