-- Every example of the bench holds: by computation on the definitions, and for every file by the laws of the readings.
-- Assumes nothing.
use mathlib.Core.Path.{refl}
use Rattle.tables.specs.Table.{table}
use Rattle.packets.specs.Packet.{packet_byte}
use Rattle.packets.specs.Start.{dss_start}
use Rattle.test_examples.specs.Bench.{bench, AllHold, Example4, Example7}
use Rattle.test_examples.proofs.Files.{one_holds, three_holds, six_holds}
use Rattle.test_examples.proofs.QpFiles.{two_holds}
use Rattle.test_examples.proofs.Qp7Files.{five_holds}

four_holds : Example4
unfolding table packet_byte
four_holds = (refl, refl)

seven_holds : Example7
unfolding dss_start
seven_holds = (refl, refl, refl)

pub bench_holds : AllHold bench
bench_holds = (one_holds, (two_holds, (three_holds, (four_holds, (five_holds, (six_holds, (seven_holds, tt)))))))
