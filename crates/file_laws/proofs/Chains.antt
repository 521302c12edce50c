-- A trace cut in parts: each event is the step of its call, from a sound state. Assumes nothing.
use Rattle.std.proofs.Common.{◌≡◌, List, [], ◌∷◌, ◌++◌, map, sym, refl, ap, ◌∙◌, subst}
use Rattle.file_rules.specs.Calls.{Call}
use Rattle.file_rules.specs.Descriptions.{Description}
use Rattle.file_rules.specs.Files.{PlainFile}
use Rattle.file_rules.specs.Steps.{Event, step, event, trace}
use Rattle.file_laws.specs.Sound.{Sound}
use Rattle.file_laws.proofs.Soundness.{stays_sound}

-- events that follow each other from a state
abbrev Chain : Description → PlainFile → List Event → Type 0
Chain d s [] = Unit {0}
Chain d s (e ∷ es) = (e ≡ event d s e.call) × Chain d e.after es

trace_chain : (d : Description) (s : PlainFile) (cs : List Call) → Chain d s (trace d s cs)
unfolding trace
trace_chain d s [] = tt
trace_chain d s (c ∷ cs) = (refl, trace_chain d (step d s c).0 cs)

sound_after : (d : Description) (s : PlainFile) (e : Event) → Sound d s → e ≡ event d s e.call → Sound d e.after
sound_after d s e z h = subst (λ (v : Event). Sound d v.after) (sym h) (stays_sound d s e.call z)

chain_rest : (d : Description) (s : PlainFile) (xs ys : List Event) → Sound d s → Chain d s (xs ++ ys) → (t : PlainFile) × Sound d t × Chain d t ys
chain_rest d s [] ys z h = (s, z, h)
chain_rest d s (x ∷ xs) ys z h = chain_rest d x.after xs ys (sound_after d s x z h.0) h.1

chain_front : (d : Description) (s : PlainFile) (xs ys : List Event) → Chain d s (xs ++ ys) → Chain d s xs
chain_front d s [] ys h = tt
chain_front d s (x ∷ xs) ys h = (h.0, chain_front d x.after xs ys h.1)

abbrev calls_of : List Event → List Call
calls_of es = map (λ (e : Event). e.call) es

chain_trace : (d : Description) (s : PlainFile) (es : List Event) → Chain d s es → es ≡ trace d s (calls_of es)
unfolding trace
chain_trace d s [] h = refl
chain_trace d s (e ∷ es) h =
    let k : e.after ≡ (step d s e.call).0 = ap (λ (x : Event). x.after) h.0 in
    λ i. h.0 i ∷ (chain_trace d e.after es h.1 ∙ ap (λ t. trace d t (calls_of es)) k) i

-- one event of a trace and those that follow it: the step of its call from a sound state, and the trace from there
pub record Cut (d : Description) (k : Event) (following : List Event) : Type 0 where
  pub from : PlainFile
  pub sound_from : Sound d from
  pub is_step : k ≡ event d from k.call
  pub sound : Sound d k.after
  pub calls : List Call
  pub is_trace : following ≡ trace d k.after calls

pub cut_at : (d : Description) (s : PlainFile) (cs : List Call) (front following back : List Event) (k : Event) → Sound d s → trace d s cs ≡ front ++ (k ∷ (following ++ back)) → Cut d k following
cut_at d s cs front following back k z h =
    let r = chain_rest d s front (k ∷ (following ++ back)) z (subst (Chain d s) h (trace_chain d s cs)) in
    record {
      from = r.0;
      sound_from = r.1;
      is_step = r.2.0;
      sound = sound_after d r.0 k r.1 r.2.0;
      calls = calls_of following;
      is_trace = chain_trace d k.after following (chain_front d k.after following back r.2.1);
    }
