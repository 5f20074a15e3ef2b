-- `detect::ds2::scan` meets its contract: what is left to scan gives what the whole scan gives, and the inner count is the candidate's score so far.
-- Assumes nothing.
use Prim.Native.Nat.{ℕ, suc, ◌+◌, ◌-◌, ◌/◌, ◌≤◌, ◌<◌, min}
use mathlib.Core.Path.{◌≡◌, sym, ◌∙◌}
use lib.ListN.{length}
use native.Mathlib.Omega.{arith}
use Rattle.detect.specs.Start.{score, scanned}
use Rattle.detect.proofs.Start.{ran_more, ran_ends, scan_none, scan_four, scan_better, scan_worse}
use Rattle.tables.proofs.Tests.{told}
use borrow.Author.Rules.{rules}
use Rattle.std.proofs.Common.{rules, ◌≡◌, ◌-◌, min, ℕ, ◌+◌, ◌<◌, ◌≤◌, length, ◌/◌}
use Rattle.detect.specs.Start.{scanned}
use Rattle.detect.proofs.ds2.scan.Goals as goal
use Rattle.detect.proofs.ds2.scan.Goals.{else-loop-valid-test, then-loop-valid-test+then-not-is_good_at, then-most-valid, else-most-valid}

no_more : (v : ℕ) → v < 4 → 16 ≤ v → ⊥
no_more v a b = omega arith

pub scan-init : goal.scan-init
unfolding scanned
scan-init c =
    let e : (c.scan_end-end.result + 512 - 512) / 512 ≡ min 0x10000 (length c.args.file.now - 6) / 512 = omega arith in
    (search rules, (search rules, (search rules, (search rules, rw e))))

pub loop-valid-preserved : goal.loop-valid-preserved
loop-valid-preserved c = (
  omega arith,
  ran_more c.args.file.now c.scan.offset c.loop-valid.valid (search rules)
      (told c.is_good_at.ensures c.if-not-is_good_at.false) c.loop-valid.invariant.1,
)

pub scan-preserved : goal.scan-preserved
scan-preserved c =
    let v = c.scan in
    let n : c.loop-valid.valid < 4 = c.loop-valid.invariant.0 in
    let z = c.scan_end-end.result in
    let q : (z + 512 - v.offset) / 512 ≡ suc ((z + 512 - (v.offset + 512)) / 512) = omega arith in
    -- where the inner loop was left, its count is the candidate's score
    let counted : score c.args.file.now v.offset ≡ c.loop-valid.valid =
    elim c.loop-valid-test.branch [
      | else-loop-valid-test w ↦ absurd (no_more c.loop-valid.valid n w.loop-valid-test.false)
      | then-loop-valid-test+then-not-is_good_at w ↦
          ran_ends c.args.file.now v.offset c.loop-valid.valid w.loop-valid-test.true (told w.is_good_at.ensures w.if-not-is_good_at.true) c.loop-valid.invariant.1
    ] in (
      search rules,
      (
        search rules,
        (
          search rules,
          (
            search rules,
            v.invariant.1.1.1.1
                ∙ (elim c.if-most-valid.branch [
                  | then-most-valid w ↦ scan_better _ _ _ _ _ _ _ q counted n w.if-most-valid.true ∙ cc
                  | else-most-valid w ↦ scan_worse _ _ _ _ _ _ _ q counted n w.if-most-valid.false ∙ cc
                ]),
          ),
        ),
      ),
    )

pub returns-then-end-offset : goal.returns-then-end-offset
returns-then-end-offset c =
    let v = c.scan in
    sym (v.invariant.1.1.1.1 ∙ scan_none _ _ _ _ _ (omega arith))

pub returns-then-valid-eq4 : goal.returns-then-valid-eq4
returns-then-valid-eq4 c =
    let v = c.scan in
    let f = c.args.file.now in
    let r = ran_more f v.offset c.loop-valid.valid (search rules) (told c.is_good_at.ensures c.if-not-is_good_at.false) c.loop-valid.invariant.1 in
    sym (v.invariant.1.1.1.1 ∙ scan_four _ _ _ _ _ (omega arith) (omega (arith, r, c.if-valid-eq4.true)))
