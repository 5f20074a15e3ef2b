-- The bytes of a recording's index are as the rules describe them.
-- Assumes nothing.
use Prim.Native.Nat.{ℕ, ◌+◌, ◌*◌, ◌≤◌, ◌<◌}
use mathlib.Core.Path.{◌≡◌, refl, ap}
use mathlib.Core.List.{List}
use native.Mathlib.Omega.{arith}
use lib.ListN.{length, drop}
use lib.Seq.{drop_at}
use Rattle.blocks.specs.Headers.{Bytes}
use Rattle.whole.specs.declared.Recording.{Recording}
use Rattle.whole.specs.Admissions.{Sound}
use Rattle.whole.proofs.Admissions.{few_blocks}
use Rattle.entries.specs.declared.Entry.{Entry}
use Rattle.entries.specs.Entries.{entry_by, entries_by, contents_in}
use Rattle.entries.specs.Index.{entries_bytes, front_bytes, edition1, index_of}
use Rattle.entries.specs.Described.{entry}
use Rattle.entries.specs.Inner.{entry_at}
use Rattle.entries.proofs.Entries.{each_stands, entry_fits, entries_few}
use Rattle.entries.proofs.Laying.{index_long}
use Rattle.entries.proofs.Held.{entry_read}
use Rattle.index.specs.LaidOut.{LaidOut}
use Rattle.index.proofs.Framed.{framed_says, framed_built}

pub index_laid_out : (f : List ℕ) (rec : Recording) → Sound f rec → Bytes f → LaidOut (index_of (contents_in f rec)) (entries_by f rec)
index_laid_out f rec sound bytes =
    let a = rec.start.0 in
    let none = entry_by 0 0 0 in
    let entries = entries_by f rec in
    let x = index_of (contents_in f rec) in
    let few : length entries ≤ 524288 = omega (arith, entries_few f a rec.blocks, few_blocks f rec sound) in
    let rest : drop 5 x ≡ entries_bytes entries = drop_at (front_bytes edition1 (length entries)) (entries_bytes entries) 5 refl in
    let read : (i : ℕ) → i < length entries → entry_at x (5 + 12 * i) ≡ entry entries i =
    λ i h. entry_read entries none x 5 i rest h (entry_fits f a rec.blocks _ bytes (few_blocks f rec sound) (each_stands f a rec.blocks none i h).of) in
    record {
      long = index_long edition1 entries;
      follow = (framed_says x (framed_built edition1 entries (omega arith) (omega arith))).1;
      version = refl;
      numbers = λ i h. ap (λ (e : Entry). e.number) (read i h);
      firsts = λ i h. ap (λ (e : Entry). e.first) (read i h);
      places = λ i h. ap (λ (e : Entry). e.place.0) (read i h);
    }
