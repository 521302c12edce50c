-- The readings of the small file and the worked examples follow from the definitions by computing. Assumes nothing.
use Rattle.std.proofs.Common.{refl}
use Rattle.byte_strings.specs.Bytes.{order, below, same}
use Rattle.storage.specs.Pairs.{total, under, placed, replaced, without}
use Rattle.storage.specs.Primary.{number_from}
use Rattle.file_rules.specs.Files.{numbered}
use Rattle.file_rules.specs.Keys.{new_key, key_in_question, written}
use Rattle.file_rules.specs.Loads.{load_checks, end_checks, load_step, loaded}
use Rattle.file_rules.specs.Paths.{value, path_string, fresh_rows}
use Rattle.file_rules.specs.Refusals.{refusal}
use Rattle.file_rules.specs.Steps.{others_locks, effect, step, trace}
use Rattle.file_rules.specs.Subsets.{strings, within, subset, lowest, next_record}
use Rattle.file_laws.specs.Examples.{Examples}
use Rattle.file_laws.specs.Readings.{Readings}

pub small_file_readings : Readings
unfolding order below same total under placed replaced without number_from refusal numbered new_key key_in_question written load_checks end_checks load_step loaded value path_string fresh_rows others_locks effect step trace strings within subset lowest next_record
small_file_readings = record {
  approximate_C = refl;
  generic_C = refl;
  exact_W = refl;
  approximate_C02 = refl;
  generic_C01 = refl;
  generic_C01_skip = refl;
  generic_D = refl;
  approximate_02 = refl;
  no_row = refl;
}

pub worked_examples : Examples
unfolding order below same total under placed replaced without number_from refusal numbered new_key key_in_question written load_checks end_checks load_step loaded value path_string fresh_rows others_locks effect step trace strings within subset lowest next_record
worked_examples = record {
  sample_tape = refl;
  met_again = refl;
  run_crossed = refl;
  cut_short = refl;
  one_lock_more = refl;
  held = refl;
  listed = refl;
  unique_value = refl;
  load_clash = refl;
  numbered_slots = refl;
  fixed_lengths = refl;
  opens = refl;
}
