-- The law of deliveries: what an accepted READ or READUPDATE hands over is the record under the key that it leaves as
-- the current key, with the bytes asked for.
use Rattle.std.specs.Prelude.{◌≡◌, ℕ, min, true, List, length, take, drop, Some}
use Rattle.std.specs.List.{AllByRecursion}
use Rattle.byte_strings.specs.Bytes.{Bytes}
use Rattle.storage.specs.Pairs.{under}
use Rattle.file_rules.specs.Calls.{number, count, buffer}
use Rattle.file_rules.specs.Files.{own}
use Rattle.file_rules.specs.Steps.{Event}
use Rattle.file_laws.specs.Events.{has_read}

-- the buffer's front is the record's, up to the count, and the rest of the buffer stays
pub record Handed (r : Bytes) (count : ℕ) (before after : Bytes) (moved : ℕ) : Type 0 where
  pub many : moved ≡ min count (length r)
  pub size : length after ≡ length before
  pub front : take moved after ≡ take moved r
  pub rest : drop moved after ≡ drop moved before

pub record Delivery (n : ℕ) (e : Event) : Type 0 where
  pub key : Bytes
  pub bytes : Bytes
  pub current : (own e.after n).current ≡ Some key
  pub present : under key e.before.pairs ≡ Some bytes
  pub handed : Handed bytes (count e.call) (buffer e.call) e.answer.buffer e.answer.moved

abbrev pub DeliveryLaw : List Event → Type 0
DeliveryLaw events = AllByRecursion (λ e. has_read e ≡ true → Delivery (number e.call) e) events
