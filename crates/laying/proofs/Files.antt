-- Laws of a file laid out: its front is the header, its blocks' headers and its payload stream are those that were laid, and the counts
-- add up to the frames. Assumes nothing.
use Prim.Native.Nat.{ℕ, zero, suc, ◌+◌, ◌*◌, ◌-◌, ◌/◌, ◌%◌, ◌≤◌, ◌<◌}
use mathlib.Core.Path.{◌≡◌, sym, ap, ◌∙◌}
use mathlib.Core.List.{List}
use native.Mathlib.Numerals.{add-one}
use native.Mathlib.Omega.{arith}
use borrow.Author.Tests.{lt-ltb, le-ltb}
use lib.ListN.{length, get_or}
use Rattle.tables.proofs.Cases.{by_order}
use Rattle.tables.proofs.Table.{length_table, table_at}
use Rattle.blocks.specs.Places.{file_of, stream_at, block_at}
use Rattle.blocks.proofs.Places.{stream_in}
use Rattle.blocks.specs.Headers.{header_byte, count_of, type_of, announced_in}
use Rattle.blocks.proofs.Headers.{announced_none, announced_more}
use Rattle.detect.specs.Kinds.{first_type}
use Rattle.detect.proofs.Types.{type_none, type_here, type_later}
use Rattle.laying.specs.Laid.{Laid, blocks_for, size_for, count_in, first_in, head_byte, block_byte, file_byte, laid_file}
use Rattle.laying.proofs.Frames.{first_none, first_more}

module _ (header : List ℕ) (l : Laid) where
  -- a byte of the header that was supplied, of a block's header, of a payload
  pub front_is : (x : ℕ) → x < 1536 → file_byte header l x ≡ get_or header x 0
  unfolding file_byte
  front_is x h = simp (lt-ltb x 1536 h)

  pub block_is : (b i : ℕ) → i < 512 → file_byte header l (block_at 1536 b + i) ≡ block_byte l b i
  unfolding file_byte
  block_is b i h =
      let block : (block_at 1536 b + i - 1536) / 512 ≡ b = omega arith in
      let byte : (block_at 1536 b + i - 1536) % 512 ≡ i = omega arith in
      rw (block, byte) (simp (le-ltb (block_at 1536 b + i) 1536 (omega arith)))

  pub head_is : (b i : ℕ) → i < 6 → file_byte header l (block_at 1536 b + i) ≡ head_byte l b i
  unfolding block_byte
  head_is b i h = block_is b i (omega arith) ∙ simp (lt-ltb i 6 h)

  pub body_is : (q : ℕ) → file_byte header l (file_of 1536 q) ≡ l.stream q
  unfolding block_byte
  body_is q =
      let there : file_of 1536 q ≡ block_at 1536 (q / 506) + (6 + q % 506) = omega arith in
      let place : 506 * (q / 506) + (6 + q % 506 - 6) ≡ q = omega arith in
      ap (file_byte header l) there
      ∙ block_is (q / 506) (6 + q % 506) (omega arith)
      ∙ simp (le-ltb (6 + q % 506) 6 (omega arith)) (ap l.stream place)

  -- the same of the list
  pub file_long : length (laid_file header l) ≡ size_for l
  unfolding laid_file
  file_long = length_table (size_for l) (file_byte header l)

  pub file_at : (i : ℕ) → i < size_for l → get_or (laid_file header l) i 0 ≡ file_byte header l i
  unfolding laid_file
  file_at i h = table_at (size_for l) (file_byte header l) i h

  pub header_at : (i : ℕ) → i < 1536 → get_or (laid_file header l) i 0 ≡ get_or header i 0
  header_at i h = file_at i (omega arith) ∙ front_is i h

  pub head_at : (b i : ℕ) → b < blocks_for l → i < 6 → header_byte (laid_file header l) 1536 b i ≡ head_byte l b i
  head_at b i h small = file_at (block_at 1536 b + i) (omega arith) ∙ head_is b i small

  pub count_at : (b : ℕ) → b < blocks_for l → count_of (laid_file header l) 1536 b ≡ count_in l b
  unfolding head_byte
  count_at b h = head_at b 2 h (omega arith)

  pub type_at : (b : ℕ) → b < blocks_for l → type_of (laid_file header l) 1536 b ≡ l.kind
  unfolding head_byte
  type_at b h = head_at b 4 h (omega arith)

  -- the counts of the first b blocks add up to the frames that begin before block b
  pub announced_is : (b : ℕ) → b ≤ blocks_for l → announced_in (laid_file header l) 1536 b ≡ first_in l b
  announced_is zero h = announced_none (laid_file header l) 1536 ∙ sym (first_none l)
  announced_is (suc b) h =
      rw (← add-one b)
      (omega (arith, announced_more (laid_file header l) 1536 b, first_more l b, announced_is b (omega arith), count_at b (omega arith)))

  -- the payload stream is the one that was laid
  pub stream_is : (q : ℕ) → q < 506 * blocks_for l → stream_at (laid_file header l) 1536 (blocks_for l) q ≡ l.stream q
  stream_is q h =
      stream_in (laid_file header l) 1536 (blocks_for l) q h ∙ file_at (file_of 1536 q) (omega arith) ∙ body_is q

-- where every block is of one type, and silence would tell the same, that is the first type
pub type_all : (f : List ℕ) (a n b t : ℕ) → ((i : ℕ) → i < n → type_of f a (b + i) ≡ t) → 0 ≡ t → first_type f a n b ≡ t
type_all f a zero b t all none = type_none f a 0 b (omega arith) ∙ none
type_all f a (suc n) b t all none =
    let here : b + 0 ≡ b = omega arith in
    by_order 0 (count_of f a b)
    (λ some. type_here f a (suc n) b n (omega arith) (omega arith) ∙ ap (type_of f a) (sym here) ∙ all 0 (omega arith))
    (λ silent.
    type_later f a (suc n) b n (omega arith) silent
    ∙ type_all f a n (b + 1) t (λ i h. let next : b + 1 + i ≡ b + suc i = omega arith in ap (type_of f a) next ∙ all (suc i) (omega arith)) none)
