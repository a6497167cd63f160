-- Why an act is refused, where one of its parts is.
use Rattle.std.proofs.Common.{◌≡◌, ◌≤◌, length, arith}
use Rattle.aat_buffer.specs.Buffer.{Buffer}
use Rattle.aat_buffer.specs.Clusters.{IsSmall}
use Rattle.aat_run.specs.Driven.{IsRefusal, IsRefused}
use Rattle.aat_kinds.specs.inside.Run.{IsRefusedRun}
use Rattle.aat_run.specs.Laws.{SameSettings}
use Rattle.aat_run.specs.facts.Settings.{refused_behind}
use Rattle.aat_run.specs.declared.error.AatError.{AatError}
use Rattle.aat_run.specs.declared.error.AatError.TheVariants.{AaltValue, TooLong, OutOfMemory, BufferFailed}

-- a part that begins and ends within the act
pub refusal_within : (old new part whole : Buffer) → new.max_len ≡ old.max_len → length old.line ≤ length new.line → length part.line ≤ length whole.line → (e : AatError) → IsRefusal new part e → IsRefusal old whole e
refusal_within old new part whole most begins ends (AaltValue value) r = r
refusal_within old new part whole most begins ends TooLong r = omega (arith, most, ends, r)
refusal_within old new part whole most begins ends OutOfMemory r = (omega (arith, begins, ends, r.0), omega (arith, most, begins, r.1))
refusal_within old new part whole most begins ends BufferFailed r = r

-- a refused run of glyphs behind what keeps the settings, as an act that is refused
pub refused_for_run : (old mid new : Buffer) → SameSettings old mid → IsSmall mid → IsRefusedRun mid new → IsRefused old new
refused_for_run old mid new same ids run =
    refused_behind old mid new same (record {
      failed = run.settings.successful;
      ids = rw run.line ids;
      length = run.within;
      settings = run.settings;
    })
