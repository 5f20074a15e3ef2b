-- What `detect_format` answers.
-- Assumes nothing.
use Rattle.std.specs.Prelude.{ℕ, ◌+◌, List, cond, ◌&&◌, length, ltb}
use Rattle.magic.specs.declared.Magic.{Magic}
use Rattle.magic.specs.declared.Magic.TheVariants.{Dss, Ds2, Grundig, Other}
use Rattle.detect.specs.declared.AudioFormat.{AudioFormat}
use Rattle.detect.specs.declared.AudioFormat.TheVariants.{None, DssSp, GrundigSp}
use Rattle.detect.specs.Start.{audio_start}
use Rattle.detect.specs.Kinds.{format_type, format_of}
use Rattle.magic.specs.Magics.{magic_of}

-- DSS and Grundig by the magic alone; a DS2 file by its type, if it goes past 0x604 and past the fourth byte of its audio; whatever has
-- no magic is not named
unfoldable pub format_by : Magic → List ℕ → AudioFormat
format_by Dss f = DssSp
format_by Grundig f = GrundigSp
format_by Ds2 f =
    cond (ltb 0x604 (length f) && ltb (audio_start f + 4) (length f)) (format_of (format_type f (audio_start f))) None
format_by Other f = None

-- of any file
unfoldable pub detected : List ℕ → AudioFormat
detected f = format_by (magic_of f) f
