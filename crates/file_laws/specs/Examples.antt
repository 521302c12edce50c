-- Worked examples of the rules: what the plain file answers, call by call.
use Rattle.std.specs.Prelude.{◌≡◌, ℕ, zero, suc, Bool, true, false, List, [], ◌∷◌, ◌++◌, replicate, Some, codes}
use Rattle.byte_strings.specs.Bytes.{Bytes}
use Rattle.storage.specs.Primary.{number_key}
use Rattle.file_rules.specs.declared.description.Organization.TheVariants.{Relative, EntrySequenced, KeySequenced}
use Rattle.file_rules.specs.Calls.{Call, OPEN, CLOSE, KEYPOSITION, READ, READUPDATE, WRITE, WRITEUPDATE, LOCKFILE, UNLOCKFILE, LOCKREC, UNLOCKREC, LOCKINFO, Answer}
use Rattle.file_rules.specs.Descriptions.{Description}
use Rattle.file_rules.specs.Files.{PlainFile, empty}
use Rattle.file_rules.specs.Keys.{append_key}
use Rattle.file_rules.specs.Loads.{LoadCall, LOAD, ENDLOAD, load_step, loaded}
use Rattle.file_rules.specs.Steps.{Event, trace}
use Rattle.file_laws.specs.Runs.{exhausted, strings_read, times_read}
use Rattle.file_laws.specs.Readings.{small, stocked, answers, blanks}

-- number, layer, key and bytes moved
abbrev pub Line : Type 0
Line = ℕ × ℕ × ℕ × ℕ

abbrev pub line : Answer → Line
line a = (a.number, a.layer, a.key, a.moved)

abbrev pub lines : List Event → List Line
lines [] = []
lines (e ∷ es) = line e.answer ∷ lines es

-- number, bytes moved and buffer
abbrev pub moved : List Event → List (ℕ × ℕ × Bytes)
moved [] = []
moved (e ∷ es) = (e.answer.number, e.answer.moved, e.answer.buffer) ∷ moved es

abbrev pub ok : Line
ok = (0, 0, 0, 0)

abbrev pub moves : ℕ → Line
moves n = (0, 0, 0, n)

abbrev pub load_lines : Description → PlainFile → List LoadCall → List Line
load_lines d s [] = []
load_lines d s (c ∷ cs) = line (load_step d s c).1 ∷ load_lines d (load_step d s c).0 cs

abbrev pub new : Description → PlainFile
new d = loaded d empty (ENDLOAD ∷ [])

abbrev pub after : PlainFile → List Event → PlainFile
after s [] = s
after s (e ∷ es) = after e.after es

-- ---- the files

-- the small file's key, with one unique alternate key of three bytes behind it
abbrev pub serial : Description
serial = record {
  organization = KeySequenced (record { offset = 0; len = 2 });
  longest = 10;
  alternates = record { specifier = codes "SN"; field = record { offset = 2; len = 3 }; unique = true; null_byte = Some 0 } ∷ [];
  record_limit = 8;
  byte_limit = 80;
  row_limit = 3;
}

abbrev pub slots : Description
slots = record { organization = Relative; longest = 8; alternates = []; record_limit = 4; byte_limit = 32; row_limit = 1 }

abbrev pub entries : Description
entries = record { organization = EntrySequenced; longest = 8; alternates = []; record_limit = 4; byte_limit = 32; row_limit = 1 }

-- ---- successions of calls

abbrev pub position : ℕ → ℕ → Bytes → Call
position n path value = KEYPOSITION n path 0 false 0 value

-- two numbers read and write; the second stands at the first record
abbrev pub two : List Call → List Event
two calls = trace small stocked (OPEN 1 0 0 ∷ OPEN 2 0 0 ∷ position 1 0 (codes "01") ∷ position 2 0 (codes "01") ∷ calls)

abbrev pub crossed : List Event
crossed = two
    (KEYPOSITION 1 1 1 true 1 (codes "C") ∷ READ 1 3 blanks ∷ WRITE 2 3 (codes "00C") ∷ WRITE 2 3 (codes "04C") ∷ position 2 0 (codes "03") ∷ WRITEUPDATE 2 0 [] ∷ READ 1 3 blanks ∷ READ 1 3 blanks ∷ [])

-- the strings that number 1 was delivered, whether it came to the end, and how often it met the records 01 and 03
abbrev pub run_of_1 : List Bytes × Bool × ℕ × ℕ
run_of_1 = (strings_read 1 crossed, exhausted 1 crossed, times_read 1 (codes "01") crossed, times_read 1 (codes "03") crossed)

-- number 1 writes, names and locks the records 0i to 01
abbrev pub locking : ℕ → List Call
locking zero = []
locking (suc i) = WRITE 1 3 (48 ∷ suc i ∷ 67 ∷ []) ∷ position 1 0 (48 ∷ suc i ∷ []) ∷ LOCKREC 1 ∷ locking i

abbrev pub thirty_two : PlainFile
thirty_two = after (new small) (trace small (new small) (OPEN 1 0 0 ∷ locking 32))

pub record Examples : Type 0 where
  -- 02W and 01C are written; along path 1 from C come 01C and 02W, then the end
  pub sample_tape : lines (trace small (new small) (OPEN 1 0 0 ∷ WRITE 1 3 (codes "02W") ∷ WRITE 1 3 (codes "01C") ∷ position 1 1 (codes "C") ∷ READ 1 3 blanks ∷ READ 1 3 blanks ∷ READ 1 3 blanks ∷ []))
      ≡ ok ∷ moves 3 ∷ moves 3 ∷ ok ∷ moves 3 ∷ moves 3 ∷ (1, 1, 0, 0) ∷ []
  -- a record whose string moves on ahead of the reader is met again
  pub met_again : answers (trace small stocked (OPEN 1 0 0 ∷ position 1 1 [] ∷ READ 1 3 blanks ∷ WRITEUPDATE 1 3 (codes "01X") ∷ READ 1 3 blanks ∷ READ 1 3 blanks ∷ READ 1 3 blanks ∷ READ 1 3 blanks ∷ []))
      ≡ (0, []) ∷ (0, []) ∷ (0, codes "01C") ∷ (0, codes "01X") ∷ (0, codes "03C") ∷ (0, codes "02W") ∷ (0, codes "01X") ∷ (1, blanks) ∷ []
  -- a run of number 1 along the records in C, while number 2 writes behind and ahead of it and removes a record; skip and
  -- a value shorter than the strings pass over nothing that begins with it
  pub run_crossed : run_of_1 ≡ (codes "C01" ∷ codes "C04" ∷ [], true, 1, 0)
  -- a count of 2 delivers two bytes and leaves the third; a buffer shorter than its count is 22; a count of 5 delivers
  -- the three bytes that there are
  pub cut_short : moved (trace small stocked (OPEN 1 0 0 ∷ READ 1 2 (codes "xyz") ∷ READUPDATE 1 4 (codes "xyz") ∷ READUPDATE 1 5 (codes "vwxyz") ∷ []))
      ≡ (0, 0, []) ∷ (0, 2, codes "01z") ∷ (22, 0, codes "xyz") ∷ (0, 3, codes "01Cyz") ∷ []
  -- where 32 record locks stand, a 33rd is not granted
  pub one_lock_more : lines (trace small thirty_two (WRITE 1 3 (codes "99C") ∷ position 1 0 (codes "99") ∷ LOCKREC 1 ∷ UNLOCKFILE 1 ∷ LOCKREC 1 ∷ []))
      ≡ moves 3 ∷ ok ∷ (31, 1, 0, 0) ∷ ok ∷ ok ∷ []
  -- READ meets another's lock and stays where it is, and delivers the record once the lock is released
  pub held : answers (two (LOCKREC 1 ∷ READ 2 3 blanks ∷ READUPDATE 2 3 blanks ∷ WRITEUPDATE 2 0 [] ∷ LOCKREC 2 ∷ LOCKFILE 2 ∷ UNLOCKREC 2 ∷ READ 2 3 blanks ∷ CLOSE 1 ∷ READ 2 3 blanks ∷ []))
      ≡ (0, []) ∷ (0, []) ∷ (0, []) ∷ (0, []) ∷ (0, []) ∷ (73, blanks) ∷ (73, blanks) ∷ (73, []) ∷ (73, []) ∷ (73, []) ∷ (0, []) ∷ (73, blanks) ∷ (0, []) ∷ (0, codes "01C") ∷ []
  -- LOCKINFO lists the locks of all numbers: holder, key length, key, zeros; the byte behind the list stays. CLOSE
  -- releases those of its own number, and a record may be placed where the lock outlasted its removal
  pub listed : answers (two (LOCKREC 1 ∷ READ 2 0 [] ∷ position 2 0 (codes "03") ∷ LOCKREC 2 ∷ LOCKINFO 1 (replicate 69 9) ∷ LOCKINFO 1 (replicate 67 9) ∷ WRITEUPDATE 1 0 [] ∷ WRITE 2 3 (codes "01D") ∷ CLOSE 1 ∷ WRITE 2 3 (codes "01D") ∷ LOCKINFO 2 (replicate 34 9) ∷ []))
      ≡ (0, []) ∷ (0, []) ∷ (0, []) ∷ (0, []) ∷ (0, []) ∷ (73, []) ∷ (0, []) ∷ (0, []) ∷ (0, (1 ∷ 2 ∷ codes "01") ++ (replicate 30 0 ++ ((2 ∷ 2 ∷ codes "03") ++ (replicate 30 0 ++ (9 ∷ []))))) ∷ (22, replicate 67 9)
      ∷ (0, []) ∷ (73, codes "01D") ∷ (0, []) ∷ (0, codes "01D") ∷ (0, (2 ∷ 2 ∷ codes "03") ++ replicate 30 0) ∷ []
  -- a unique value stands in one record; records without a value do not clash; rows up to the limit
  pub unique_value : lines (trace serial (new serial) (OPEN 1 0 0 ∷ WRITE 1 5 (codes "01AAA") ∷ WRITE 1 5 (codes "02AAA") ∷ WRITE 1 5 (codes "02BBB") ∷ WRITE 1 2 (codes "03") ∷ WRITE 1 2 (codes "04")
      ∷ position 1 0 (codes "02") ∷ WRITEUPDATE 1 5 (codes "02AAA") ∷ WRITEUPDATE 1 6 (codes "02BBBx") ∷ WRITEUPDATE 1 5 (codes "05BBB") ∷ WRITE 1 5 (codes "05CCC") ∷ WRITE 1 5 (codes "06DDD") ∷ []))
      ≡ ok ∷ moves 5 ∷ (10, 3, 1, 0) ∷ moves 5 ∷ moves 2 ∷ moves 2 ∷ ok ∷ (10, 3, 1, 0) ∷ moves 6 ∷ (46, 1, 0, 0) ∷ moves 5 ∷ (45, 3, 0, 0) ∷ []
  -- a load with a clash cannot be ended
  pub load_clash : load_lines serial empty (LOAD 5 (codes "02AAA") ∷ LOAD 5 (codes "01AAA") ∷ LOAD 5 (codes "01CCC") ∷ ENDLOAD ∷ LOAD 1 (codes "3") ∷ ENDLOAD ∷ [])
      ≡ moves 5 ∷ moves 5 ∷ (10, 2, 0, 0) ∷ (10, 3, 1, 0) ∷ (21, 1, 0, 0) ∷ (10, 3, 1, 0) ∷ []
  -- relative: without a current key 46; FFFFFFFF appends; a present number 10; a number at the limit 45
  pub numbered_slots : lines (trace slots (new slots) (OPEN 1 0 0 ∷ WRITE 1 1 (codes "a") ∷ position 1 0 append_key ∷ WRITE 1 1 (codes "a") ∷ WRITE 1 1 (codes "b") ∷ READUPDATE 1 1 (codes "z") ∷ position 1 0 (number_key 1) ∷ WRITE 1 1 (codes "c") ∷ position 1 0 (number_key 4) ∷ WRITE 1 1 (codes "c") ∷ []))
      ≡ ok ∷ (46, 1, 0, 0) ∷ ok ∷ moves 1 ∷ moves 1 ∷ (11, 2, 0, 0) ∷ ok ∷ (10, 2, 0, 0) ∷ ok ∷ (45, 2, 0, 0) ∷ []
  -- entry-sequenced: a record keeps its length and stays
  pub fixed_lengths : lines (trace entries (new entries) (OPEN 1 0 0 ∷ WRITE 1 2 (codes "ab") ∷ position 1 0 (number_key 0) ∷ WRITEUPDATE 1 1 (codes "c") ∷ WRITEUPDATE 1 0 [] ∷ WRITEUPDATE 1 2 (codes "cd") ∷ []))
      ≡ ok ∷ moves 2 ∷ ok ∷ (21, 2, 0, 0) ∷ (21, 2, 0, 0) ∷ moves 2 ∷ []
  -- a protected open keeps writers out and an exclusive one everybody; a read-only number may not write
  pub opens : lines (trace small (new small) (OPEN 1 0 3 ∷ OPEN 2 0 0 ∷ OPEN 2 1 0 ∷ OPEN 3 1 1 ∷ OPEN 2 1 0 ∷ OPEN 9 0 0 ∷ OPEN 3 3 0 ∷ OPEN 3 0 2 ∷ CLOSE 4 ∷ WRITE 2 3 (codes "01C") ∷ KEYPOSITION 2 2 0 false 0 [] ∷ KEYPOSITION 2 0 1 false 0 [] ∷ []))
      ≡ ok ∷ (12, 1, 0, 0) ∷ ok ∷ (12, 1, 0, 0) ∷ (12, 1, 0, 0) ∷ (16, 1, 0, 0) ∷ (21, 1, 0, 0) ∷ (21, 1, 0, 0) ∷ (16, 1, 0, 0) ∷ (2, 1, 0, 0) ∷ (46, 1, 0, 0) ∷ (21, 1, 0, 0) ∷ []
