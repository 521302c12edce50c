-- A call that has a name has the form of that name. Assumes nothing.
use Rattle.std.proofs.Common.{◌≡◌, true, sym, refl, subst, true≢false, arith}
use Rattle.std.proofs.lemmas.Bool.{eqb-true}
use Rattle.file_rules.specs.Calls.{Call, OPEN, CLOSE, KEYPOSITION, READ, READUPDATE, WRITE, WRITEUPDATE, LOCKFILE, UNLOCKFILE, LOCKREC, UNLOCKREC, LOCKINFO, CallName, Open, Close, KeyPosition, Read, ReadUpdate, Write, WriteUpdate, LockFile, UnlockFile, LockRec, UnlockRec, LockInfo, Opening, Positioning, name, code, is, reads, number, count, buffer}

abbrev pub Form : CallName → Call → Type 0
Form Open c = (o : Opening) × (c ≡ OPEN (number c) o.access o.exclusion)
Form Close c = c ≡ CLOSE (number c)
Form KeyPosition c = (p : Positioning) × (c ≡ KEYPOSITION (number c) p.path p.mode p.skip p.compare p.value)
Form Read c = c ≡ READ (number c) (count c) (buffer c)
Form ReadUpdate c = c ≡ READUPDATE (number c) (count c) (buffer c)
Form Write c = c ≡ WRITE (number c) (count c) (buffer c)
Form WriteUpdate c = c ≡ WRITEUPDATE (number c) (count c) (buffer c)
Form LockFile c = c ≡ LOCKFILE (number c)
Form UnlockFile c = c ≡ UNLOCKFILE (number c)
Form LockRec c = c ≡ LOCKREC (number c)
Form UnlockRec c = c ≡ UNLOCKREC (number c)
Form LockInfo c = c ≡ LOCKINFO (number c) (buffer c)

own_form : (c : Call) → Form (name c) c
own_form (OPEN n a e) = (record { access = a; exclusion = e }, refl)
own_form (CLOSE n) = refl
own_form (KEYPOSITION n p m k c v) = (record { path = p; mode = m; skip = k; compare = c; value = v }, refl)
own_form (READ n c b) = refl
own_form (READUPDATE n c b) = refl
own_form (WRITE n c b) = refl
own_form (WRITEUPDATE n c b) = refl
own_form (LOCKFILE n) = refl
own_form (UNLOCKFILE n) = refl
own_form (LOCKREC n) = refl
own_form (UNLOCKREC n) = refl
own_form (LOCKINFO n b) = refl

same_name : (a b : CallName) → code a ≡ code b → a ≡ b
same_name a b h = grind arith

pub form : (m : CallName) (c : Call) → is m c ≡ true → Form m c
form m c i = subst (λ z. Form z c) (same_name (name c) m (eqb-true _ _ i)) (own_form c)

-- what holds of READ and of READUPDATE with a call's number, count and buffer holds of a read
pub by_read : (P : Call → Type 0) (c : Call) → reads c ≡ true → P (READ (number c) (count c) (buffer c)) → P (READUPDATE (number c) (count c) (buffer c)) → P c
by_read P (READ n c b) i next current = next
by_read P (READUPDATE n c b) i next current = current
by_read P c i next current = absurd (true≢false (sym i))
