-- The version of the boundary, which the header and the hosts' crates are written for. It goes up by 1 with every change of an answer or of a
-- layout that a host sees. Assumes nothing.
use Rattle.std.specs.Prelude.{ℕ}

abbrev pub version : ℕ
version = 5
