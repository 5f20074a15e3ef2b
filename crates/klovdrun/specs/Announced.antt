-- When a whole file is complete as announced, by the numbers of its tally: what the header's `klov_complete_as_announced` asks.
-- Assumes nothing.
use Rattle.std.specs.Prelude.{ℕ, ◌+◌, ◌*◌, ◌<◌, ◌≡◌, List, true, not}
use Rattle.refusals.specs.Said.{answers}
use Rattle.magic.specs.Magics.{names_dss}
use Rattle.whole.specs.declared.Recording.{Recording}
use Rattle.whole.specs.Admissions.{admission}
use Rattle.sp.specs.declared.Run.{Run}
use Rattle.sp.specs.Readings.{total, reading_of}
use Rattle.sp.specs.Whole.{whole_at}
use Rattle.numbers.specs.declared.Tallied.{Tallied}

-- of a file of so many bytes with this tally: the tally answered, handed out is announced, none is short, and no byte lies past the last
-- whole block
pub record AsAnnounced (tallied : Tallied) (long : ℕ) : Type 0 where
  pub answered : tallied.refusal ≡ 0
  pub all_handed : tallied.handed ≡ tallied.announced
  pub none_short : tallied.short_count ≡ 0
  pub none_past : long ≡ tallied.start + 512 * tallied.blocks

-- every packet of an SP file that is read by these runs is whole
abbrev pub AllWhole : List ℕ → (List ℕ → ℕ → ℕ → List Run) → Type 0
AllWhole f runs =
    (rec : Recording) × (admission f (names_dss f) (not (names_dss f)) ≡ answers rec)
    × ((k : ℕ) → k < total (reading_of f rec runs) → whole_at (reading_of f rec runs) k ≡ true)
