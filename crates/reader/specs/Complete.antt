-- What a recording is that came out of a reader and is complete, and when all that came out is whole.
-- Assumes nothing.
use Rattle.std.specs.Prelude.{ℕ, ◌+◌, ◌*◌, ◌≤◌, ◌<◌, ◌≡◌, List, [], ◌⊎◌, length, get_or}
use Rattle.blocks.specs.Headers.{announced_in}
use Rattle.refusals.specs.Said.{answers}
use Rattle.sp.specs.Readings.{total, CompleteAt}
use Rattle.reader.specs.State.{start_of, blocks_in, reading_by}
use Rattle.reader.specs.History.{packets_from, counts_from}
use Rattle.reader.specs.Agreement.{whole_reading, Agrees}

-- of f, all bytes that a reader of this kind has taken, n packets came out, and with that it is complete: its header is full, or it has
-- no byte at all; the packets are as many as its whole blocks announce; no byte lies past the last of them; each packet is the reading's
-- of these blocks, with its count, and its read is complete; and where f is a file that is read as this kind, that is its whole reading, all
-- of it
pub record CompleteRecording (kind : ℕ) (f : List ℕ) (n : ℕ) (packets entries : List ℕ) : Type 0 where
  pub header : (start_of kind ≤ length f) ⊎ (f ≡ [])
  pub none_owed : n ≡ announced_in f (start_of kind) (blocks_in kind f)
  pub none_cut : length f ≤ start_of kind + 512 * blocks_in kind f
  pub packets_are : packets ≡ packets_from (reading_by kind f) 0 n
  pub counts_are : entries ≡ counts_from (reading_by kind f) 0 n
  pub all_complete : (k : ℕ) → k < n → CompleteAt (reading_by kind f) k
  pub all_read : Agrees kind f → (whole_reading kind f ≡ answers (reading_by kind f)) × (n ≡ total (reading_by kind f))

-- the first of the counts that came out is 42, or none came out. Of a complete recording that is to say that it does not begin swapped
abbrev pub BeginsUnswapped : List ℕ → Type 0
BeginsUnswapped entries = get_or entries 0 42 ≡ 42
