-- Two outcomes of an export that its contract allows for the same arguments are equal: its numbers, and all that was lent to it. The
-- contract is the one in the source, as the check reads it; of the two that advance a reader, which the check's own walk does not
-- cover, it is what their contracts cite. Assumes nothing.
use Prim.Native.Nat.{ℕ}
use mathlib.Core.Path.{◌≡◌, sym, ap, ◌∙◌}
use mathlib.Core.List.{List}
use Rattle.tables.specs.Settled.{SettledResult, SettledAs}
use Rattle.refusals.specs.Said.{Said, result_says}
use Rattle.sp.specs.Readings.{Reading}
use Rattle.sp.proofs.Outcome.{only_outcome}
use Rattle.qp.proofs.Outcome.{only_outcome as qp-only}
use Rattle.qp7.proofs.Outcome.{only_outcome as qp7-only}
use Rattle.frames.specs.Fetch.{fetched_says}
use Rattle.frames.proofs.Theorems.{only_filled}
use Rattle.writing.proofs.Theorems.{only_outcome as only-written}
use Rattle.index.proofs.Theorems.{only_built}
use Rattle.reader.specs.declared.Reader.{Reader}
use Rattle.reader.specs.declared.Step.{Step}
use Rattle.reader.specs.State.{Reached}
use Rattle.reader.specs.History.{PieceCall, EndCall, OwedCall}
use Rattle.reader.proofs.Total.{only_opened, reached_piece, only_piece, reached_end, only_end, only_owed}
use Rattle.numbers.specs.declared.Answer.{Answer}
use Rattle.numbers.specs.Numbers.{one_number, qp_numbers, qp7_numbers, stand_numbers, owing_numbers, built_numbers}
use Rattle.klovdrun.specs.Wrapped.{SpCarries, Advances, step_to}
use Rattle.klovdrun.proofs.klov_version.Kinds as told
use Rattle.klovdrun.proofs.klov_version.Reads as told-reads
use Rattle.klovdrun.proofs.klov_detect_format.Kinds as format
use Rattle.klovdrun.proofs.klov_detect_format.Reads as format-reads
use Rattle.klovdrun.proofs.klov_detect_ds2_audio_start.Kinds as start
use Rattle.klovdrun.proofs.klov_detect_ds2_audio_start.Reads as start-reads
use Rattle.klovdrun.proofs.klov_detect_ds2_format_type.Kinds as type
use Rattle.klovdrun.proofs.klov_detect_ds2_format_type.Reads as type_Reads
use Rattle.klovdrun.proofs.klov_is_ds2_audio_block_header.Kinds as header
use Rattle.klovdrun.proofs.klov_is_ds2_audio_block_header.Reads as header-reads
use Rattle.klovdrun.proofs.klov_payload.Kinds as payload
use Rattle.klovdrun.proofs.klov_payload.Reads as payload-reads
use Rattle.klovdrun.proofs.klov_demux_dss.Kinds as dss
use Rattle.klovdrun.proofs.klov_demux_dss.Reads as dss-reads
use Rattle.klovdrun.proofs.klov_demux_ds2_sp.Kinds as sp
use Rattle.klovdrun.proofs.klov_demux_ds2_sp.Reads as sp-reads
use Rattle.klovdrun.proofs.klov_ds2_sp_packet.Kinds as packet
use Rattle.klovdrun.proofs.klov_ds2_sp_packet.Reads as packet-reads
use Rattle.klovdrun.proofs.klov_demux_ds2_qp.Kinds as qp
use Rattle.klovdrun.proofs.klov_demux_ds2_qp.Reads as qp-reads
use Rattle.klovdrun.proofs.klov_demux_ds2_qp7.Kinds as qp7
use Rattle.klovdrun.proofs.klov_demux_ds2_qp7.Reads as qp7-reads
use Rattle.klovdrun.proofs.klov_frame.Kinds as frame
use Rattle.klovdrun.proofs.klov_frame.Reads as frame-reads
use Rattle.klovdrun.proofs.klov_fetch.Kinds as fetch
use Rattle.klovdrun.proofs.klov_fetch.Reads as fetch-reads
use Rattle.klovdrun.proofs.klov_show.Kinds as show
use Rattle.klovdrun.proofs.klov_show.Reads as show-reads
use Rattle.klovdrun.proofs.klov_tally.Kinds as tally
use Rattle.klovdrun.proofs.klov_tally.Reads as tally-reads
use Rattle.klovdrun.proofs.klov_write_ds2_sp.Kinds as write
use Rattle.klovdrun.proofs.klov_write_ds2_sp.Reads as write-reads
use Rattle.klovdrun.proofs.klov_build_index.Kinds as building
use Rattle.klovdrun.proofs.klov_build_index.Reads as building-reads
use Rattle.klovdrun.proofs.klov_read_index.Kinds as reading
use Rattle.klovdrun.proofs.klov_read_index.Reads as reading-reads
use Rattle.klovdrun.proofs.klov_find_entry.Kinds as finds
use Rattle.klovdrun.proofs.klov_find_entry.Reads as finds-reads
use Rattle.klovdrun.proofs.klov_dss_packet.Kinds as indexed
use Rattle.klovdrun.proofs.klov_dss_packet.Reads as indexed-reads
use Rattle.klovdrun.proofs.klov_open.Kinds as opening
use Rattle.klovdrun.proofs.klov_open.Reads as opening-reads
use Rattle.std.specs.Prelude.{Result}
use Rattle.refusals.specs.declared.Refusal.{Refusal}

-- the exports that are lent nothing to write
pub klov_version_settled : SettledResult 0 told.ps told.r told-reads.Post
klov_version_settled κs a x y s t p q = p ∙ sym q

pub klov_detect_format_settled : SettledResult 1 format.ps format.r format-reads.Post
klov_detect_format_settled κs a x y s t p q = p ∙ sym q

pub klov_detect_ds2_audio_start_settled : SettledResult 1 start.ps start.r start-reads.Post
klov_detect_ds2_audio_start_settled κs a x y s t p q = p ∙ sym q

pub klov_detect_ds2_format_type_settled : SettledResult 1 type.ps type.r type_Reads.Post
klov_detect_ds2_format_type_settled κs a x y s t p q = p ∙ sym q

pub klov_is_ds2_audio_block_header_settled : SettledResult 1 header.ps header.r header-reads.Post
klov_is_ds2_audio_block_header_settled κs a x y s t p q = p ∙ sym q

pub klov_payload_settled : SettledResult 1 payload.ps payload.r payload-reads.Post
klov_payload_settled κs a x y s t p q = p ∙ sym q

pub klov_frame_settled : SettledResult 0 frame.ps frame.r frame-reads.Post
klov_frame_settled κs a x y s t p q = p ∙ sym q

pub klov_show_settled : SettledResult 2 show.ps show.r show-reads.Post
klov_show_settled κs a x y s t p q = p ∙ sym q

pub klov_tally_settled : SettledResult 1 tally.ps tally.r tally-reads.Post
klov_tally_settled κs a x y s t p q = p ∙ sym q

pub klov_read_index_settled : SettledResult 2 reading.ps reading.r reading-reads.Post
klov_read_index_settled κs a x y s t p q = p ∙ sym q

pub klov_find_entry_settled : SettledResult 2 finds.ps finds.r finds-reads.Post
klov_find_entry_settled κs a x y s t p q = p ∙ sym q

-- where the wrapped call's answers are the same, so are the numbers
carried : {A : Type 0} (numbers_of : A → Answer) {x y : A} {r r' : Answer} → x ≡ y → r ≡ numbers_of x → r' ≡ numbers_of y → r ≡ r'
carried numbers_of e p q = p ∙ ap numbers_of e ∙ sym q

-- two buffers, or one
abbrev Two : Type 0
Two = Answer × List ℕ × List ℕ

abbrev One : Type 0
One = Answer × List ℕ

sp_settled : {reading : Said Reading} {out out₁ out₂ counts counts₁ counts₂ : List ℕ} {r r' : Answer} → SpCarries reading out out₁ counts counts₁ r
    → SpCarries reading out out₂ counts counts₂ r' → ◌≡◌ {A = Two} (r, out₁, counts₁) (r', out₂, counts₂)
sp_settled p q =
    let e = only_outcome p.comes q.comes in
    let n = carried (λ answer. one_number (result_says answer)) (λ i. (e i).0) p.numbers_are q.numbers_are in
    (λ i. (n i, (e i).1, (e i).2))

pub klov_demux_dss_settled : SettledAs 3 dss.ps dss.r (λ κs. Two) (λ κs x s. (x, s.1.0.now, s.1.1.0.now)) dss-reads.Post
klov_demux_dss_settled κs a x y s t p q = sp_settled p q

pub klov_demux_ds2_sp_settled : SettledAs 3 sp.ps sp.r (λ κs. Two) (λ κs x s. (x, s.1.0.now, s.1.1.0.now)) sp-reads.Post
klov_demux_ds2_sp_settled κs a x y s t p q = sp_settled p q

pub klov_ds2_sp_packet_settled : SettledAs 3 packet.ps packet.r (λ κs. Two) (λ κs x s. (x, s.1.1.0.now, s.1.1.1.0.now)) packet-reads.Post
klov_ds2_sp_packet_settled κs a x y s t p q = sp_settled p q

pub klov_dss_packet_settled : SettledAs 4 indexed.ps indexed.r (λ κs. Two) (λ κs x s. (x, s.1.1.1.0.now, s.1.1.1.1.0.now)) indexed-reads.Post
klov_dss_packet_settled κs a x y s t p q = sp_settled p q

pub klov_demux_ds2_qp_settled : SettledAs 2 qp.ps qp.r (λ κs. One) (λ κs x s. (x, s.1.0.now)) qp-reads.Post
klov_demux_ds2_qp_settled κs a x y s t p q =
    let e = qp-only p.comes q.comes in
    let n = carried (λ answer. qp_numbers (result_says answer)) (λ i. (e i).0) p.numbers_are q.numbers_are in
    (λ i. (n i, (e i).1))

pub klov_demux_ds2_qp7_settled : SettledAs 3 qp7.ps qp7.r (λ κs. Two) (λ κs x s. (x, s.1.0.now, s.1.1.0.now)) qp7-reads.Post
klov_demux_ds2_qp7_settled κs a x y s t p q =
    let e = qp7-only p.comes q.comes in
    let n = carried (λ answer. qp7_numbers (result_says answer)) (λ i. (e i).0) p.numbers_are q.numbers_are in
    (λ i. (n i, (e i).1, (e i).2))

pub klov_fetch_settled : SettledAs 2 fetch.ps fetch.r (λ κs. One) (λ κs x s. (x, s.1.1.1.0.now)) fetch-reads.Post
klov_fetch_settled κs a x y s t p q =
    let e = only_filled p.comes q.comes in
    let n = carried (λ answer. stand_numbers (fetched_says answer)) (λ i. (e i).0) p.numbers_are q.numbers_are in
    (λ i. (n i, (e i).1))

pub klov_write_ds2_sp_settled : SettledAs 3 write.ps write.r (λ κs. One) (λ κs x s. (x, s.1.1.0.now)) write-reads.Post
klov_write_ds2_sp_settled κs a x y s t p q =
    let e = only-written p.comes q.comes in
    let n = carried (λ answer. one_number (result_says answer)) (λ i. (e i).0) p.numbers_are q.numbers_are in
    (λ i. (n i, (e i).1))

pub klov_build_index_settled : SettledAs 2 building.ps building.r (λ κs. One) (λ κs x s. (x, s.1.0.now)) building-reads.Post
klov_build_index_settled κs a x y s t p q =
    let e = only_built p.comes q.comes in
    let n = carried (λ answer. built_numbers (result_says answer)) (λ i. (e i).0) p.numbers_are q.numbers_are in
    (λ i. (n i, (e i).1))

-- open: the numbers and the reader beside them
pub klov_open_settled : SettledResult 0 opening.ps opening.r opening-reads.Post
klov_open_settled κs a x y s t p q =
    let e = only_opened _ p.comes q.comes in
    let answer : x.answer ≡ y.answer = p.numbers_are ∙ ap (λ (step : Step). one_number (result_says step.answer)) e ∙ sym q.numbers_are in
    (λ i. record { answer = answer i; reader = (e i).reader })

-- A reader that is advanced where it stands. Its numbers are settled where what the call says and what it owes are.
advanced : {stored stored' : Reader} {x y : Result ℕ Refusal} {r r' : Answer} → Reached stored → step_to stored x ≡ step_to stored' y
    → OwedCall stored r.second → OwedCall stored' r'.second → r ≡ owing_numbers r.second (result_says x)
    → r' ≡ owing_numbers r'.second (result_says y) → (r ≡ r') × (stored ≡ stored')
advanced {stored} {stored'} {x} {y} {r} {r'} known e one other p q =
    let same : stored ≡ stored' = ap (λ (step : Step). step.reader) e in
    let says : x ≡ y = ap (λ (step : Step). step.answer) e in
    let owed : r.second ≡ r'.second = owes same in
    (p ∙ (λ i. owing_numbers (owed i) (result_says (says i))) ∙ sym q, same)
  where
    owes : stored ≡ stored' → r.second ≡ r'.second
    owes same = only_owed known one (λ s is. other s (sym same ∙ is))

module _ {reader : Reader} (known : Reached reader) where
  -- `klov_piece`: the numbers, the reader that is stored, output and counts, for every reader that open or a call gave back
  pub klov_piece_settled : {piece out out₁ out₂ counts counts₁ counts₂ : List ℕ} {stored₁ stored₂ : Reader} {r₁ r₂ : Answer}
      → Advances (PieceCall reader piece out out₁ counts counts₁) stored₁ r₁ → Advances (PieceCall reader piece out out₂ counts counts₂) stored₂ r₂
      → (r₁ ≡ r₂) × (stored₁ ≡ stored₂) × (out₁ ≡ out₂) × (counts₁ ≡ counts₂)
  klov_piece_settled p q =
      let e = only_piece known p.carries.comes q.carries.comes in
      let a = advanced (reached_piece known p.carries.comes) e.0 p.owed_is q.owed_is p.carries.numbers_are q.carries.numbers_are in
      (a.0, a.1, e.1, e.2)

  -- `klov_end`: as of a piece, by any choice
  pub klov_end_settled : {choice : ℕ} {out out₁ out₂ counts counts₁ counts₂ : List ℕ} {stored₁ stored₂ : Reader} {r₁ r₂ : Answer}
      → Advances (EndCall reader choice out out₁ counts counts₁) stored₁ r₁ → Advances (EndCall reader choice out out₂ counts counts₂) stored₂ r₂
      → (r₁ ≡ r₂) × (stored₁ ≡ stored₂) × (out₁ ≡ out₂) × (counts₁ ≡ counts₂)
  klov_end_settled p q =
      let e = only_end known p.carries.comes q.carries.comes in
      let a = advanced (reached_end known p.carries.comes) e.0 p.owed_is q.owed_is p.carries.numbers_are q.carries.numbers_are in
      (a.0, a.1, e.1, e.2)
