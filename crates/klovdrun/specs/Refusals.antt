-- The numbers that each export refuses by, as its definition decides them one after another; of `klov_end` they are those of either end and of any
-- other choice, in the order that they are listed in. `klov_tally`'s are the tally's own (`tally_refusals`). Assumes nothing.
use Rattle.std.specs.Prelude.{ℕ, List, [], ◌∷◌, cond, eqb}
use Rattle.reader.specs.Calls.{strict, lenient}

-- `klov_payload`
abbrev pub payload_refusals : List ℕ
payload_refusals = 1 ∷ 2 ∷ 3 ∷ 12 ∷ []

-- `klov_demux_dss`
abbrev pub dss_refusals : List ℕ
dss_refusals = 1 ∷ 2 ∷ 3 ∷ 8 ∷ []

-- `klov_demux_ds2_sp`
abbrev pub ds2_refusals : List ℕ
ds2_refusals = 1 ∷ 2 ∷ 3 ∷ 11 ∷ 8 ∷ []

-- `klov_ds2_sp_packet`
abbrev pub packet_refusals : List ℕ
packet_refusals = 1 ∷ 2 ∷ 3 ∷ 11 ∷ 18 ∷ 8 ∷ []

-- `klov_demux_ds2_qp`
abbrev pub qp_refusals : List ℕ
qp_refusals = 1 ∷ 2 ∷ 3 ∷ 11 ∷ 9 ∷ []

-- `klov_demux_ds2_qp7`
abbrev pub qp7_refusals : List ℕ
qp7_refusals = 1 ∷ 2 ∷ 3 ∷ 11 ∷ 4 ∷ 5 ∷ 8 ∷ 9 ∷ []

-- `klov_fetch` and `klov_show`
abbrev pub fetch_refusals : List ℕ
fetch_refusals = 1 ∷ 2 ∷ 3 ∷ 12 ∷ []

-- `klov_open`
abbrev pub open_refusals : List ℕ
open_refusals = 10 ∷ []

-- `klov_piece`
abbrev pub piece_refusals : List ℕ
piece_refusals = 6 ∷ 2 ∷ 7 ∷ 8 ∷ []

-- `klov_end`
abbrev pub end_refusals : List ℕ
end_refusals = 6 ∷ 22 ∷ 3 ∷ 13 ∷ 14 ∷ []

-- of these the strict end's, the lenient end's, and what every other choice gets
abbrev pub refusals_by : ℕ → List ℕ
refusals_by choice = cond (eqb choice strict) (6 ∷ 3 ∷ 13 ∷ 14 ∷ []) (cond (eqb choice lenient) (3 ∷ []) (22 ∷ []))

-- `klov_write_ds2_sp`
abbrev pub write_refusals : List ℕ
write_refusals = 15 ∷ 16 ∷ 17 ∷ 8 ∷ []

-- `klov_build_index`
abbrev pub build_refusals : List ℕ
build_refusals = 1 ∷ 2 ∷ 3 ∷ 8 ∷ []

-- `klov_read_index`
abbrev pub read_refusals : List ℕ
read_refusals = 1 ∷ 2 ∷ 3 ∷ 19 ∷ 20 ∷ 21 ∷ []

-- `klov_find_entry`
abbrev pub find_refusals : List ℕ
find_refusals = 1 ∷ 2 ∷ 3 ∷ 19 ∷ 20 ∷ 21 ∷ 18 ∷ []

-- `klov_dss_packet`
abbrev pub indexed_refusals : List ℕ
indexed_refusals = 1 ∷ 2 ∷ 3 ∷ 19 ∷ 20 ∷ 21 ∷ 18 ∷ 8 ∷ []
