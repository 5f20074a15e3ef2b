-- The examples that speak of every file of some magic and length.
-- Assumes nothing.
use Prim.Native.Nat.{ℕ, ◌+◌, ◌*◌, ◌-◌, ◌≤◌, ◌<◌}
use mathlib.Core.Path.{◌≡◌, refl, sym, ap, ◌∙◌}
use mathlib.Core.List.{List}
use mathlib.Core.Bool.{true, false}
use native.Mathlib.Omega.{arith}
use borrow.Author.Tests.{le-ltb}
use lib.ListN.{length, drop}
use Rattle.tables.specs.Table.{table, sum}
use Rattle.tables.proofs.Table.{same_table}
use Rattle.blocks.specs.Places.{limit, whole_blocks}
use Rattle.blocks.specs.Headers.{count_of, type_of, swap_of, announced_in}
use Rattle.blocks.proofs.Headers.{announced_none, announced_more}
use Rattle.magic.specs.declared.Magic.TheVariants.{Ds2}
use Rattle.magic.specs.Magics.{spells, ds2_by, magic_of}
use Rattle.refusals.specs.Said.{answers, refuses}
use Rattle.whole.specs.declared.Recording.{Recording}
use Rattle.detect.specs.declared.Kind.{Kind}
use Rattle.detect.specs.declared.Kind.TheVariants.{Sp}
use Rattle.detect.specs.Header.{good_header}
use Rattle.detect.specs.Start.{audio_start}
use Rattle.detect.specs.Kinds.{format_type}
use Rattle.whole.specs.Admissions.{admission_at, admission, type_in, ds2_admission}
use Rattle.whole.proofs.Admissions.{ds2_at, admitted, ds2_taken}
use Rattle.detect.proofs.Types.{type_here}
use Rattle.detect.proofs.Rules.{none_good_start}
use Rattle.packets.specs.Packet.{file_count}
use Rattle.packets.specs.Walk.{reach, parity}
use Rattle.sp.specs.Readings.{Reading, file_count_at, reading_of, ds2_reading}
use Rattle.sp.specs.ReadLists.{ds2_runs}
use Rattle.sp.proofs.ReadLists.{ds2_packets}
use Rattle.sp.proofs.Theorems.{ds2_bare, ds2_cut, ds2_reads_at}
use Rattle.test_examples.specs.Bench.{BeginsDs2, Ds2File, ds2_answer, Example1, Example3, Example6}

-- a file that begins so, and is long enough, is a DS2 file
is_ds2 : (byte : ℕ) (f : List ℕ) → BeginsDs2 byte f → ds2_by byte ≡ Ds2 → 4 ≤ length f → magic_of f ≡ Ds2
unfolding magic_of spells
is_ds2 byte f begins known long =
    simp (le-ltb (length f) 4 long, begins.d, begins.s, begins.two, begins.first, known)

-- its header bare, and cut
module _ (byte a : ℕ) (f : List ℕ) (room : ℕ) (begins : BeginsDs2 byte f) (known : ds2_by byte ≡ Ds2) (start : audio_start f ≡ a) where
  bare : length f ≡ a → 4 ≤ a → a ≤ limit → ds2_answer f room ≡ answers 0
  bare long four few = ds2_bare f room (omega arith) (is_ds2 byte f begins known (omega arith)) (long ∙ sym start)

  cut : length f < a → 4 ≤ length f → length f ≤ limit → ds2_answer f room ≡ refuses 3 a
  cut short four few = ds2_cut f room few (is_ds2 byte f begins known four) (omega (arith, start)) ∙ ap (refuses 3) start

-- the audio of a file whose first byte is 1 starts at 1536, and of one with 7 where the scan says
start_1 : (f : List ℕ) → BeginsDs2 1 f → audio_start f ≡ 1536
unfolding audio_start
start_1 f begins = simp begins.first

start_7 : (f : List ℕ) → BeginsDs2 7 f → ((i : ℕ) → good_header (drop (512 * i) f) ≡ false) → audio_start f ≡ 4096
unfolding audio_start
start_7 f begins none =
    simp begins.first
    (none_good_start f (λ j h. let place : 512 * (j + 1) ≡ 512 + 512 * j = omega arith in rw place at (none (j + 1))))

known_1 : ds2_by 1 ≡ Ds2
unfolding ds2_by
known_1 = refl

known_7 : ds2_by 7 ≡ Ds2
unfolding ds2_by
known_7 = refl

pub one_holds : Example1
one_holds f room begins = (
  (λ long. bare 1 1536 f room begins known_1 (start_1 f begins) long (omega arith) (omega arith)),
  (λ long. cut 1 1536 f room begins known_1 (start_1 f begins) (omega arith) (omega arith) (omega arith)),
)

pub three_holds : Example3
three_holds f room begins none = (
  (λ long. cut 7 4096 f room begins known_7 (start_7 f begins none) (omega arith) (omega arith) (omega arith)),
  (λ long. bare 7 4096 f room begins known_7 (start_7 f begins none) long (omega arith) (omega arith)),
)

-- the recording of such a file
abbrev pub recording_of : ℕ → Recording
recording_of blocks = record { start = record { 0 = 1536 }; blocks = blocks }

type_first : (f : List ℕ) (blocks : ℕ) → 0 < whole_blocks (length f) 1536 → 0 < count_of f 1536 0 → type_in f (recording_of blocks) ≡ type_of f 1536 0
unfolding format_type
type_first f blocks some announces =
    type_here f 1536 (whole_blocks (length f) 1536) 0 (whole_blocks (length f) 1536 - 1) (omega (arith, some)) announces

pub taken_as : (kind : Kind) (blocks : ℕ) (f : List ℕ) → 1 ≤ blocks → blocks ≤ 2 → Ds2File kind blocks f
    → ds2_admission f kind ≡ answers (recording_of blocks)
taken_as kind blocks f some few file =
    ds2_taken f kind (recording_of blocks) taken (type_of f 1536 0) (sym type_is) file.type_is
  where
    long : (2048 ≤ length f) × (length f < 3072)
    long = (omega (arith, file.whole, some), omega (arith, file.whole, few))

    taken : admission f false true ≡ answers (recording_of blocks)
    taken =
        ds2_at f (is_ds2 1 f file.begins known_1 (omega (arith, long)))
        ∙ ap (admission_at f) (start_1 f file.begins)
        ∙ sym (admitted f true 1536 refl (omega (arith, long)) (omega (arith, long)) blocks (sym file.whole))

    type_is : type_in f (recording_of blocks) ≡ type_of f 1536 0
    type_is = type_first f blocks (omega (arith, long)) file.announces

-- one SP block
module _ (f : List ℕ) (file : Ds2File Sp 1 f) (flag : swap_of f 1536 0 ≡ false) (thirteen : count_of f 1536 0 ≡ 13) where
  abbrev r : Reading
  r = reading_of f (recording_of 1) ds2_runs

  reads : ds2_reading f ≡ answers r
  unfolding ds2_reading
  reads = rw (taken_as Sp 1 f (omega arith) (omega arith) file)

  announced : announced_in f 1536 1 ≡ 13
  announced = announced_more f 1536 0 ∙ omega (arith, announced_none f 1536)

  counted : (k : ℕ) → k < 13 → file_count_at r k ≡ file_count 506 (parity false k) (reach false k)
  counted k h =
      let at = ds2_reads_at f (recording_of 1) k (omega (arith, announced)) in
      cc (at.0, at.1, flag)

  all_counts : table 13 (file_count_at r) ≡ table 13 (λ k. file_count 506 (parity false k) (reach false k))
  all_counts = same_table 13 _ _ counted

last_short : file_count 506 (parity false 12) (reach false 12) ≡ 14
unfolding file_count
last_short = refl

all_of_it : sum (table 13 (λ k. file_count 506 (parity false k) (reach false k))) ≡ 506
unfolding table sum file_count
all_of_it = refl

pub six_holds : Example6
six_holds f file flag thirteen = (
  r f file flag thirteen,
  reads f file flag thirteen,
  ds2_packets f 1536 1 ∙ announced f file flag thirteen,
  counted f file flag thirteen 12 (omega arith) ∙ last_short,
  ap sum (all_counts f file flag thirteen) ∙ all_of_it,
)
