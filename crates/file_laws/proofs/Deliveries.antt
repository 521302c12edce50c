-- The law of deliveries. Assumes nothing.
use Rattle.std.proofs.Common.{◌≡◌, ℕ, ◌+◌, ◌≤◌, min, true, List, [], ◌∷◌, ◌++◌, length, take, drop, is_some, Some, None, Option, sym, refl, ap, ◌∙◌, subst, true≢false, arith}
use Rattle.std.proofs.lemmas.List.{length-take, length-drop, length-append, take_at, take_min, drop_at, take_all}
use Rattle.std.proofs.lemmas.Bool.{and_parts, eqb-true, not-false}
use Rattle.byte_strings.specs.Bytes.{Bytes}
use Rattle.storage.specs.Pairs.{under}
use Rattle.file_rules.specs.Calls.{Call, READ, READUPDATE, Answer, reads, number, count, buffer}
use Rattle.file_rules.specs.Checks.{given}
use Rattle.file_rules.specs.Descriptions.{Description}
use Rattle.file_rules.specs.Files.{Entry, PlainFile, entry_of, own}
use Rattle.file_rules.specs.Keys.{key_in_question}
use Rattle.file_rules.specs.Refusals.{refusal}
use Rattle.file_rules.specs.Steps.{delivered, moved_to, read_current, effect, step, event, trace}
use Rattle.file_rules.specs.Subsets.{subset}
use Rattle.file_laws.specs.Deliveries.{Handed, Delivery, DeliveryLaw}
use Rattle.file_laws.specs.Sound.{Sound}
use Rattle.file_laws.proofs.CallForms.{by_read}
use Rattle.file_laws.proofs.Events.{numbered-same, own_is, accepted, accepted_step, Took, took}
use Rattle.file_laws.proofs.Members.{some_of, under-from-in}
use Rattle.file_laws.proofs.Refusals.{clear, is_open, roomy}
use Rattle.file_laws.proofs.Soundness.{stays_sound}
use Rattle.file_laws.proofs.Subsets.{subset_in, lowest_low}

-- ---- the buffer

pub handed_over : (r : Bytes) (c : ℕ) (b : Bytes) → c ≤ length b → Handed r c b (delivered r c b).buffer (delivered r c b).moved
handed_over r c b h =
    let x = take c r in
    let m : length x ≡ min c (length r) = length-take c r in
    let whole : take (length b) x ≡ x = take_all (length b) x (omega arith) in
    subst (λ z. Handed r c b (z ++ drop (length x) b) (length x)) (sym whole) (record {
      many = m;
      size = length-append x (drop (length x) b) ∙ ap (λ k. length x + k) (length-drop (length x) b) ∙ omega arith;
      front = take_at x (drop (length x) b) (length x) refl ∙ sym (ap (λ k. take k r) m ∙ take_min c r);
      rest = drop_at x (drop (length x) b) (length x) refl;
    })

-- ---- READ

-- an accepted READ of a number with the entry o: what it took, and what it left
pub record ReadOf (d : Description) (s : PlainFile) (n c : ℕ) (b : Bytes) (o : Entry) : Type 0 where
  pub took : Took d s n c b o
  pub left : entry_of (step d s (READ n c b)).0 n ≡ Some (moved_to o took.got)
  pub delivery : Delivery n (event d s (READ n c b))
  pub its_key : delivery.key ≡ took.got.key
  pub its_bytes : delivery.bytes ≡ took.got.bytes

pub read_of : (d : Description) (s : PlainFile) (n c : ℕ) (b : Bytes) (o : Entry) → Sound d s → entry_of s n ≡ Some o → refusal d s (READ n c b) ≡ None → ReadOf d s n c b o
read_of d s n c b o g at e =
    let t = took d s n c b o at e in
    let f = t.got in
    let left : entry_of (step d s (READ n c b)).0 n ≡ Some (moved_to o f) = ap (λ z. entry_of z n) t.after ∙ numbered-same s.entries n (Some (moved_to o f)) (ap is_some at) in
    let w = own_is (step d s (READ n c b)).0 n (moved_to o f) left in
    let j = subset_in d s.pairs o f (lowest_low (subset d s.pairs o) f t.hit).0 in
    record {
      took = t;
      left = left;
      delivery = record {
        key = f.key;
        bytes = f.bytes;
        current = ap (λ (u : Entry). u.current) w;
        present = under-from-in (f.key, f.bytes) s.pairs g.ordered j.1;
        handed = subst (λ (a : Answer). Handed f.bytes c b a.buffer a.moved) (sym t.answer) (handed_over f.bytes c b (roomy d s (READ n c b) (clear d s (READ n c b) e)));
      };
      its_key = refl;
      its_bytes = refl;
    }

-- ---- READUPDATE

current_read : (ps : List (Bytes × Bytes)) (c : ℕ) (b : Bytes) (o : Option Bytes) → given o (λ κ. is_some (under κ ps)) ≡ true →
    (κ : Bytes) × (r : Bytes) × (o ≡ Some κ) × (under κ ps ≡ Some r) × (read_current ps c b o ≡ delivered r c b)
current_read ps c b None h = absurd (true≢false (sym h))
current_read ps c b (Some κ) h = let r = some_of (under κ ps) h in let e = r.1 in (κ, r.0, refl, e, grind arith)

delivers_current : (d : Description) (s : PlainFile) (n c : ℕ) (b : Bytes) → refusal d s (READUPDATE n c b) ≡ None → Delivery n (event d s (READUPDATE n c b))
unfolding effect key_in_question
delivers_current d s n c b e =
    let k = clear d s (READUPDATE n c b) e in
    let f = current_read s.pairs c b (own s n).current (not-false _ k.standing) in
    let w = accepted_step d s (READUPDATE n c b) e in
    record {
      key = f.0;
      bytes = f.1;
      current = ap (λ (z : PlainFile × Answer). (own z.0 n).current) w ∙ f.2;
      present = f.3;
      handed = subst (λ (a : Answer). Handed f.1 c b a.buffer a.moved) (sym (ap (λ (z : PlainFile × Answer). z.1) w ∙ f.4)) (handed_over f.1 c b (roomy d s (READUPDATE n c b) k));
    }

-- ---- any call

delivers_next : (d : Description) (s : PlainFile) (n c : ℕ) (b : Bytes) → Sound d s → refusal d s (READ n c b) ≡ None → Delivery n (event d s (READ n c b))
delivers_next d s n c b g e =
    let p = some_of (entry_of s n) (is_open d s (READ n c b) (clear d s (READ n c b) e) refl) in
    (read_of d s n c b p.0 g p.1 e).delivery

delivered_by : (d : Description) (s : PlainFile) (c : Call) → Sound d s → reads c ≡ true → refusal d s c ≡ None → Delivery (number c) (event d s c)
delivered_by d s c g i =
    by_read (λ z. refusal d s z ≡ None → Delivery (number c) (event d s z)) c i (delivers_next d s (number c) (count c) (buffer c) g) (delivers_current d s (number c) (count c) (buffer c))

pub delivery_law : (d : Description) (cs : List Call) (s : PlainFile) → Sound d s → DeliveryLaw (trace d s cs)
unfolding trace
delivery_law d [] s g = tt
delivery_law d (c ∷ cs) s g =
    ((λ i. let p = and_parts _ _ i in delivered_by d s c g p.0 (accepted d s c (eqb-true _ _ p.1))), delivery_law d cs (step d s c).0 (stays_sound d s c g))
