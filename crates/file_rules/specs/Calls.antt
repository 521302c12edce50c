-- The twelve calls with all their arguments, any numbers and byte strings, buffers included; and their answers.
--     is, one_of           whether a call has a name, or one of some names
--     number               the file number that it names
--     opening, positioning     what OPEN and KEYPOSITION name besides
--     count, buffer        how many bytes it is to move, and from or to where
use Rattle.std.specs.Prelude.{ℕ, Bool, false, not, ◌&&◌, ◌||◌, List, [], ◌∷◌, take, Some, None, Option, ◌==◌}
use Rattle.byte_strings.specs.Bytes.{Bytes}

pub data Call : Type 0 where
  OPEN : (number access exclusion : ℕ) → Call
  CLOSE : (number : ℕ) → Call
  KEYPOSITION : (number path mode : ℕ) (skip : Bool) (compare : ℕ) (value : Bytes) → Call
  READ : (number count : ℕ) (buffer : Bytes) → Call
  READUPDATE : (number count : ℕ) (buffer : Bytes) → Call
  WRITE : (number count : ℕ) (buffer : Bytes) → Call
  WRITEUPDATE : (number count : ℕ) (buffer : Bytes) → Call
  LOCKFILE : (number : ℕ) → Call
  UNLOCKFILE : (number : ℕ) → Call
  LOCKREC : (number : ℕ) → Call
  UNLOCKREC : (number : ℕ) → Call
  LOCKINFO : (number : ℕ) (buffer : Bytes) → Call

pub record Answer : Type 0 where
  pub number : ℕ
  pub layer : ℕ
  pub key : ℕ
  pub moved : ℕ
  -- the buffer as it is handed back
  pub buffer : Bytes

-- ---- names

pub data CallName : Type 0 where
  Open Close KeyPosition Read ReadUpdate Write WriteUpdate LockFile UnlockFile LockRec UnlockRec LockInfo : CallName

abbrev pub name : Call → CallName
name (OPEN n a e) = Open
name (CLOSE n) = Close
name (KEYPOSITION n p m k c v) = KeyPosition
name (READ n c b) = Read
name (READUPDATE n c b) = ReadUpdate
name (WRITE n c b) = Write
name (WRITEUPDATE n c b) = WriteUpdate
name (LOCKFILE n) = LockFile
name (UNLOCKFILE n) = UnlockFile
name (LOCKREC n) = LockRec
name (UNLOCKREC n) = UnlockRec
name (LOCKINFO n b) = LockInfo

-- the call's code on a tape, by which names are told apart
abbrev pub code : CallName → ℕ
code Open = 1
code Close = 2
code KeyPosition = 3
code Read = 4
code ReadUpdate = 5
code Write = 6
code WriteUpdate = 7
code LockFile = 8
code UnlockFile = 9
code LockRec = 10
code UnlockRec = 11
code LockInfo = 12

abbrev pub is : CallName → Call → Bool
is m c = code (name c) == code m

abbrev pub one_of : List CallName → Call → Bool
one_of [] c = false
one_of (m ∷ ms) c = is m c || one_of ms c

abbrev pub reads : Call → Bool
reads c = one_of (Read ∷ ReadUpdate ∷ []) c

abbrev pub writes : Call → Bool
writes c = one_of (Write ∷ WriteUpdate ∷ []) c

-- ---- arguments

abbrev pub number : Call → ℕ
number (OPEN n a e) = n
number (CLOSE n) = n
number (KEYPOSITION n p m k c v) = n
number (READ n c b) = n
number (READUPDATE n c b) = n
number (WRITE n c b) = n
number (WRITEUPDATE n c b) = n
number (LOCKFILE n) = n
number (UNLOCKFILE n) = n
number (LOCKREC n) = n
number (UNLOCKREC n) = n
number (LOCKINFO n b) = n

pub record Opening : Type 0 where
  pub access : ℕ
  pub exclusion : ℕ

abbrev pub opening : Call → Option Opening
opening (OPEN n a e) = Some (record { access = a; exclusion = e })
opening (CLOSE n) = None
opening (KEYPOSITION n p m k c v) = None
opening (READ n c b) = None
opening (READUPDATE n c b) = None
opening (WRITE n c b) = None
opening (WRITEUPDATE n c b) = None
opening (LOCKFILE n) = None
opening (UNLOCKFILE n) = None
opening (LOCKREC n) = None
opening (UNLOCKREC n) = None
opening (LOCKINFO n b) = None

pub record Positioning : Type 0 where
  pub path : ℕ
  pub mode : ℕ
  pub skip : Bool
  pub compare : ℕ
  pub value : Bytes

abbrev pub positioning : Call → Option Positioning
positioning (OPEN n a e) = None
positioning (CLOSE n) = None
positioning (KEYPOSITION n p m k c v) = Some (record { path = p; mode = m; skip = k; compare = c; value = v })
positioning (READ n c b) = None
positioning (READUPDATE n c b) = None
positioning (WRITE n c b) = None
positioning (WRITEUPDATE n c b) = None
positioning (LOCKFILE n) = None
positioning (UNLOCKFILE n) = None
positioning (LOCKREC n) = None
positioning (UNLOCKREC n) = None
positioning (LOCKINFO n b) = None

abbrev pub count : Call → ℕ
count (OPEN n a e) = 0
count (CLOSE n) = 0
count (KEYPOSITION n p m k c v) = 0
count (READ n c b) = c
count (READUPDATE n c b) = c
count (WRITE n c b) = c
count (WRITEUPDATE n c b) = c
count (LOCKFILE n) = 0
count (UNLOCKFILE n) = 0
count (LOCKREC n) = 0
count (UNLOCKREC n) = 0
count (LOCKINFO n b) = 0

abbrev pub buffer : Call → Bytes
buffer (OPEN n a e) = []
buffer (CLOSE n) = []
buffer (KEYPOSITION n p m k c v) = []
buffer (READ n c b) = b
buffer (READUPDATE n c b) = b
buffer (WRITE n c b) = b
buffer (WRITEUPDATE n c b) = b
buffer (LOCKFILE n) = []
buffer (UNLOCKFILE n) = []
buffer (LOCKREC n) = []
buffer (UNLOCKREC n) = []
buffer (LOCKINFO n b) = b

-- the record that a write is given
abbrev pub new_record : Call → Bytes
new_record c = take (count c) (buffer c)

-- a WRITEUPDATE of no bytes removes
abbrev pub replaces : Call → Bool
replaces c = is WriteUpdate c && not (count c == 0)
