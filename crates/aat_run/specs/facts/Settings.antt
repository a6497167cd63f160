-- What leaves the settings of a buffer, one behind another, and a refusal behind it.
use Rattle.std.proofs.Common.{◌∙◌, arith, refl}
use Rattle.aat_buffer.specs.Buffer.{Buffer}
use Rattle.aat_run.specs.Driven.{IsRefused}
use Rattle.aat_run.specs.Laws.{SameSettings}

pub settings_stay : (b : Buffer) → SameSettings b b
settings_stay b = record { direction = refl; cluster_level = refl; flags = refl; scratch_flags = refl; max_len = refl; successful = refl }

pub settings_then : (a b c : Buffer) → SameSettings a b → SameSettings b c → SameSettings a c
settings_then a b c first then = record {
  direction = then.direction ∙ first.direction;
  cluster_level = then.cluster_level ∙ first.cluster_level;
  flags = then.flags ∙ first.flags;
  scratch_flags = then.scratch_flags ∙ first.scratch_flags;
  max_len = then.max_len ∙ first.max_len;
  successful = then.successful ∙ first.successful;
}

-- a refusal behind what keeps the settings
pub refused_behind : (old mid new : Buffer) → SameSettings old mid → IsRefused mid new → IsRefused old new
refused_behind old mid new same refused = record {
  failed = refused.failed;
  ids = refused.ids;
  length = omega (arith, refused.length, same.max_len);
  settings = record {
    direction = refused.settings.direction ∙ same.direction;
    cluster_level = refused.settings.cluster_level ∙ same.cluster_level;
    flags = refused.settings.flags ∙ same.flags;
    scratch_flags = refused.settings.scratch_flags ∙ same.scratch_flags;
    max_len = refused.settings.max_len ∙ same.max_len;
    successful = refused.settings.successful;
  };
}
