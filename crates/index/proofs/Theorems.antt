-- What holds of `build_index` and `read_index` for every file, all bytes and all lent memory, beyond their contracts or drawn from them. Each
-- statement stands under a sentence that says it. Assumes nothing.
use Prim.Native.Nat.{ℕ, ◌+◌, ◌*◌, ◌≤◌, ◌<◌}
use mathlib.Core.Path.{◌≡◌, refl, sym, ap, ◌∙◌, subst}
use mathlib.Core.List.{List, [], ◌∷◌}
use mathlib.Core.Bool.{true, false}
use native.Mathlib.Omega.{arith}
use borrow.Author.Tests.{le-leb, lt-leb, eq-eqb, eqb-true, leb-true}
use lib.ListN.{length, get_or, take, drop}
use lib.Seq.{drop-cons, ext_get_or, get_or-take, length-take-le}
use lib.Dec.{eqb, leb}
use Rattle.tables.specs.Settled.{SettledAs, SettledResult}
use Rattle.tables.specs.Lent.{Leaves}
use Rattle.tables.specs.Entries.{in_turn, fronted}
use Rattle.tables.proofs.Cases.{by_order, never}
use Rattle.tables.proofs.Lent.{leaves_at, over_leaves}
use Rattle.blocks.specs.Headers.{Bytes}
use Rattle.refusals.specs.declared.Numbers.{Numbers}
use Rattle.refusals.specs.Said.{Said, answers, refuses, refusal, result_says}
use Rattle.refusals.proofs.Said.{not_both, for_the_answer, by_refusal, went_on, by_onward, onward_refused, onward_answered, asked_of}
use Rattle.whole.specs.declared.Recording.{Recording}
use Rattle.whole.specs.Admissions.{admission, Sound}
use Rattle.whole.proofs.Admissions.{sound, few_blocks}
use Rattle.sp.specs.ReadLists.{dss_runs}
use Rattle.sp.specs.Readings.{Reading, total, reading_of, dss_reading}
use Rattle.sp.proofs.ReadLists.{dss_packets}
use Rattle.sp.proofs.Outcome.{read_by_lem}
use Rattle.entries.specs.declared.Entry.{Entry}
use Rattle.entries.specs.Entries.{entry_by, entries_by, Contents, contents_in}
use Rattle.entries.specs.Index.{entries_bytes, edition1, index_of, size_of}
use Rattle.entries.specs.Held.{part, is_rest, first_wrong}
use Rattle.entries.specs.Described.{Described}
use Rattle.entries.proofs.Entries.{entries_few}
use Rattle.entries.proofs.Described.{entries_described}
use Rattle.entries.proofs.Held.{same_is, same_if, part_is, all_long, all_right, wrong_leads}
use Rattle.entries.proofs.Laying.{index_long}
use Rattle.index.specs.declared.Size.{Size}
use Rattle.index.specs.Reading.{contents_of, framed, read_to, read_beside, index_read}
use Rattle.index.specs.Outcome.{in_room, sized, out_after, Builds}
use Rattle.index.specs.LaidOut.{LaidOut}
use Rattle.index.specs.Unreadable.{FirstWrong, Unreadable}
use Rattle.index.specs.Unreadable.Unreadable.{no_length, other_version, not_entries}
use Rattle.index.proofs.Framed.{has_length, with_length, framed_says, is_index, framed_built}
use Rattle.index.proofs.Reading.{asked}
use Rattle.index.proofs.LaidOut.{index_laid_out}
use Rattle.index.proofs.build_index.Kinds as builds
use Rattle.index.proofs.build_index.Reads as builds-reads
use Rattle.index.proofs.read_index.Kinds as reads
use Rattle.index.proofs.read_index.Reads as reads-reads
use Rattle.std.specs.Prelude.{Result}
use Rattle.refusals.specs.declared.Refusal.{Refusal}
use Rattle.refusals.proofs.Results.{only_result}

-- what an index of a file speaks of is the recording's
spoken_of : (f : List ℕ) (c : Contents) → contents_of f ≡ answers c
    → (rec : Recording) × (admission f true false ≡ answers rec) × Sound f rec × (contents_in f rec ≡ c)
unfolding contents_of
spoken_of f c e =
    let w = went_on (admission f true false) (λ rec. answers (contents_in f rec)) e in
    (w.0, w.1, sound f true false w.0 w.1, cc)

contents_of_lem : (f : List ℕ) (rec : Recording) → admission f true false ≡ answers rec → contents_of f ≡ answers (contents_in f rec)
unfolding contents_of
contents_of_lem f rec e = onward_answered (λ rec. answers (contents_in f rec)) (sym e)

-- one byte is the head of edition 1
headed : (x : List ℕ) → 5 ≤ length x → get_or x 4 0 ≡ 1 → take 1 (drop 4 x) ≡ edition1
headed x there version = ap (take 1) (drop-cons x 4 0 (omega arith)) ∙ ap (λ (v : ℕ). v ∷ []) version

-- One recording has exactly one index: bytes that reading accepts for a file are those of the file's own index, and reading accepts those.
pub only_one_index : (f x : List ℕ) (c : Contents) → Bytes x → index_read f x ≡ answers c → (contents_of f ≡ answers c) × (x ≡ index_of c)
unfolding index_read
only_one_index f x c bytes e =
    let w = went_on (admission f true false) (λ rec. read_beside f rec x) e in
    let v = asked x (contents_in f w.0) c w.2 in
    let is : x ≡ index_of (contents_in f w.0) =
    is_index edition1 (contents_in f w.0).entries x bytes v.1 (headed x (framed_says x v.1).0 v.2) v.3 in
    (contents_of_lem f w.0 w.1 ∙ ap answers v.0, is ∙ ap index_of v.0)

pub its_index_is_read : (f : List ℕ) (c : Contents) → contents_of f ≡ answers c → index_read f (index_of c) ≡ answers c
unfolding index_read
its_index_is_read f c e =
    let w = spoken_of f c e in
    let rec = w.0 in
    let d = contents_in f rec in
    let few : length d.entries ≤ 524288 = omega (arith, entries_few f rec.start.0 rec.blocks, few_blocks f rec w.2) in
    let held : read_to d (index_of d) ≡ answers d =
    simp (framed_built edition1 d.entries (omega arith) (omega arith), same_if (entries_bytes d.entries) (entries_bytes d.entries) refl) in
    onward_answered (λ rec. read_beside f rec (index_of c)) (sym w.1)
    ∙ subst (λ (x : Contents). read_to d (index_of x) ≡ answers x) w.3 held

-- Every file that the DSS reading takes has one, which speaks of as many packets; and a file that it refuses is refused so here, whatever the bytes.
pub every_reading_has_one : (f : List ℕ) (r : Reading) → dss_reading f ≡ answers r
    → (c : Contents) × (contents_of f ≡ answers c) × (c.total ≡ total r)
unfolding dss_reading
every_reading_has_one f r e =
    let v = read_by_lem f (admission f true false) dss_runs r e in (
      contents_in f v.0,
      contents_of_lem f v.0 v.1,
      sym (dss_packets f v.0.start.0 v.0.blocks) ∙ ap total v.2,
    )

pub refused_alike : (f x : List ℕ) (why : Numbers) → dss_reading f ≡ refusal why → (contents_of f ≡ refusal why) × (index_read f x ≡ refusal why)
unfolding dss_reading contents_of index_read
refused_alike f x why e =
    by_onward (admission f true false) (λ rec. answers (reading_of f rec dss_runs)) e
    (λ first. (onward_refused (λ rec. answers (contents_in f rec)) (sym first), onward_refused (λ rec. read_beside f rec x) (sym first)))
    (λ rec is then. absurd (not_both (sym then)))

-- Its entries are as the rules describe them, in the words of headers and of the whole reading; and so are its bytes, as numbers.
pub index_described : (f : List ℕ) (c : Contents) → Bytes f → contents_of f ≡ answers c
    → (rec : Recording) × (admission f true false ≡ answers rec) × Described f rec c.entries × LaidOut (index_of c) c.entries
index_described f c bytes e =
    let w = spoken_of f c e in (
      w.0,
      w.1,
      subst (λ (d : Contents). Described f w.0 d.entries) w.3 (entries_described f w.0),
      subst (λ (d : Contents). LaidOut (index_of d) d.entries) w.3 (index_laid_out f w.0 w.2 bytes),
    )

-- Building needs room for five bytes and twelve for each entry: with so much it answers how many these are, and with less it is refused by 8 with that.
pub room_decides : (f : List ℕ) (c : Contents) (room : ℕ) → contents_of f ≡ answers c
    → (5 + 12 * length c.entries ≤ room
    → sized (in_room (contents_of f) room) ≡ answers (record { bytes = 5 + 12 * length c.entries; entries = length c.entries }))
    × (room < 5 + 12 * length c.entries → sized (in_room (contents_of f) room) ≡ refuses 8 (5 + 12 * length c.entries))
unfolding in_room
room_decides f c room e =
    let long : size_of c ≡ 5 + 12 * length c.entries = index_long edition1 c.entries in (
      (λ fits. rw (← long) (simp (e, le-leb (size_of c) room (omega (arith, long))))),
      (λ less. rw (← long) (simp (e, lt-leb (size_of c) room (omega (arith, long))))),
    )

-- A file that is refused is refused so whatever room there is.
pub refused_before_room : (f : List ℕ) (why : Numbers) (room : ℕ) → contents_of f ≡ refusal why → sized (in_room (contents_of f) room) ≡ refusal why
unfolding in_room
refused_before_room f why room e = rw e

-- the part that `first_wrong` counts to is wrong, where anything is
first_wrong_lem : (entries : List Entry) (rest : List ℕ) → (rest ≡ entries_bytes entries → ⊥) → FirstWrong entries rest (first_wrong entries rest)
first_wrong_lem entries rest other =
    let k = first_wrong entries rest in
    let leads = wrong_leads entries rest in
    record {
      within = leads.within;
      before = λ i h.
          same_is (part i rest) (part i (entries_bytes entries)) (leads.before i h)
          ∙ part_is entries (entry_by 0 0 0) i (omega (arith, leads.within));
      wrong = λ h e.
          never (same_if (part k rest) (part k (entries_bytes entries)) (e ∙ sym (part_is entries (entry_by 0 0 0) k h))) (leads.stops h);
      too_many = λ all.
          by_order (12 * length entries) (length rest) (λ more. omega (arith, all, more))
          (λ most. absurd (other (all_right entries rest (omega (arith, all)) (all_long entries rest (omega (arith, all)) most))));
    }

-- the same of a refusal
abbrev Why : List ℕ → List Entry → Numbers → Type 0
Why x entries said = Unreadable x entries said.number said.beside

-- Bytes that reading refuses for an admitted file are refused by 19, 20 or 21 with the number beside it, and for the reason which these stand for:
-- 21 names the first entry that differs, is cut, is absent or is one too many.
pub refused_why : (f x : List ℕ) (rec : Recording) (why : Numbers) → admission f true false ≡ answers rec → index_read f x ≡ refusal why
    → Unreadable x (entries_by f rec) why.number why.beside
unfolding index_read
refused_why f x rec why is e = by_tests (sym (onward_answered (λ rec. read_beside f rec x) (sym is)) ∙ e)
  where
    by_tests : read_beside f rec x ≡ refusal why → Why x (entries_by f rec) why
    by_tests e =
        by_refusal (framed x) e
        (λ frame then.
        by_refusal (eqb (get_or x 4 0) 1) then
        (λ version last.
        by_refusal (is_rest (entries_by f rec) (drop 5 x)) last (λ right answered. absurd (not_both (sym answered)))
        (λ wrong same.
        subst (Why x (entries_by f rec)) same
        (not_entries (has_length x frame) (eqb-true (get_or x 4 0) 1 version)
        (first_wrong_lem (entries_by f rec) (drop 5 x) (λ equal. never (same_if (drop 5 x) (entries_bytes (entries_by f rec)) equal) wrong)))))
        (λ other same. subst (Why x (entries_by f rec)) same (other_version (has_length x frame) (λ one. never (eq-eqb (get_or x 4 0) 1 one) other))))
        (λ none same. subst (Why x (entries_by f rec)) same (no_length (λ h. never (with_length x h) none)))

module _ (f out out' : List ℕ) (answer : Result Size Refusal) (b : Builds (contents_of f) out out' answer) where
  -- A refused building changes nothing.
  pub refused_changes_nothing : (why : Numbers) → result_says answer ≡ refusal why → out' ≡ out
  refused_changes_nothing why e = b.out_is ∙ refused (in_room (contents_of f) (length out)) (sym b.answer_is ∙ e)
    where
      refused : (said : Said Contents) → sized said ≡ refusal why → out_after said out ≡ out
      refused (answers c) e = absurd (not_both (sym e))
      refused (refusal why) e = refl

  module _ (size : Size) (e : result_says answer ≡ answers size) where
    -- An accepted one leaves the index in front of the output, and every other byte, and the length, as it was; and its answer says how many bytes
    -- the index has, and how many entries.
    pub accepted_writes : (c : Contents) × (contents_of f ≡ answers c) × (size.bytes ≡ size_of c) × (size.entries ≡ length c.entries) × Leaves out 0 (size_of c) (λ i. get_or (index_of c) i 0) out'
        × (size_of c ≤ length out)
    unfolding in_room
    accepted_writes =
        let w = went_on (in_room (contents_of f) (length out)) (λ c. answers (record { bytes = size_of c; entries = length c.entries })) (sym b.answer_is ∙ e) in
        let c = w.0 in
        let v = asked_of (contents_of f) (λ c. leb (size_of c) (length out)) 8 size_of c w.1 in
        let laid : out' ≡ fronted (index_of c) out = b.out_is ∙ ap (λ (said : Said Contents). out_after said out) w.1 in
        let room = leb-true (size_of c) (length out) v.1 in (
          c,
          v.0,
          for_the_answer (λ (x : Size). size.bytes ≡ x.bytes) (sym w.2) refl,
          for_the_answer (λ (x : Size). size.entries ≡ x.entries) (sym w.2) refl,
          subst (Leaves out 0 (size_of c) (λ i. get_or (index_of c) i 0)) (sym laid) (over_leaves (size_of c) (λ i. get_or (index_of c) i 0) out room),
          room,
        )

    -- The bytes that were built are the file's index, and read back.
    pub built_is : (c : Contents) × (contents_of f ≡ answers c) × (take size.bytes out' ≡ index_of c) × (size.entries ≡ length c.entries)
    built_is =
        let w = accepted_writes in
        let c = w.0 in
        let there : size.bytes ≤ length out' = omega (arith, w.2, w.5, w.4.long) in
        let long : length (take size.bytes out') ≡ size_of c = length-take-le size.bytes out' there ∙ w.2 in (
          c,
          w.1,
          ext_get_or 0 (take size.bytes out') (index_of c) long
              (λ i h.
              let inside : i < size_of c = omega (arith, long) in
              get_or-take size.bytes out' i 0 (omega (arith, w.2)) ∙ leaves_at w.4 i inside),
          w.3,
        )

    pub built_is_read : (c : Contents) × (index_read f (take size.bytes out') ≡ answers c) × (size.entries ≡ length c.entries)
    built_is_read = let w = built_is in (w.0, ap (index_read f) w.2 ∙ its_index_is_read f w.0 w.1, w.3)

    -- And what reading accepts for the file is what was built, byte for byte.
    pub read_is_built : (x : List ℕ) (c : Contents) → Bytes x → index_read f x ≡ answers c → x ≡ take size.bytes out'
    read_is_built x c bytes read =
        let one = only_one_index f x c bytes read in
        let w = built_is in
        one.1 ∙ for_the_answer (λ (d : Contents). index_of c ≡ index_of d) (sym one.0 ∙ w.1) refl ∙ sym w.2

-- Two outcomes of `build_index` that its contract allows for the same arguments are equal: the answer and the output. The contract is the
-- one in the source, as the check reads it. And so of `read_index`, which is lent nothing to write.
pub only_built : {contents : Said Contents} {out out₁ out₂ : List ℕ} {one other : Result Size Refusal} → Builds contents out out₁ one → Builds contents out out₂ other
    → ◌≡◌ {A = Result Size Refusal × List ℕ} (one, out₁) (other, out₂)
only_built {contents} {out} {one = one} {other = other} p q =
    let answer : one ≡ other =
    only_result one other (sized (in_room contents (length out))) p.answer_is q.answer_is in
    cc (answer, p.out_is, q.out_is)

pub build_index_settled : SettledAs 2 builds.ps builds.r (λ κs. Result Size Refusal × List ℕ) (λ κs x s. (x, s.1.0.now)) builds-reads.Post
build_index_settled κs a x y s t p q = only_built p q

pub read_index_settled : SettledResult 2 reads.ps reads.r reads-reads.Post
read_index_settled κs a x y s t p q = only_result x y _ p q

-- Where no block announces anything the index is 00 00 00 01 01. With one entry of the numbers 01020304, 05060708 and 090A0B0C, each as four bytes are
-- written, it is 00 00 00 0D 01, and then those bytes in that order.
pub none_announcing : (c : Contents) → c.entries ≡ [] → index_of c ≡ 0 ∷ 0 ∷ 0 ∷ 1 ∷ 1 ∷ []
unfolding in_turn
none_announcing c none = rw none

pub one_entry : (c : Contents) → c.entries ≡ entry_by 0x01020304 0x05060708 0x090A0B0C ∷ []
    → index_of c ≡ 0 ∷ 0 ∷ 0 ∷ 13 ∷ 1 ∷ 1 ∷ 2 ∷ 3 ∷ 4 ∷ 5 ∷ 6 ∷ 7 ∷ 8 ∷ 9 ∷ 10 ∷ 11 ∷ 12 ∷ []
unfolding in_turn
one_entry c one = rw one
