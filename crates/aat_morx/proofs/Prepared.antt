-- What preparing a line keeps of it.
use Rattle.std.proofs.Common.{◌≡◌, ℕ, length, None, refl, arith}
use Rattle.aat_buffer.specs.Buffer.{Buffer, without_positions}
use Rattle.aat_buffer.specs.Clusters.{IsSmall}
use Rattle.aat_buffer.specs.facts.Lines.{length_concat, of_concat}
use Rattle.aat_buffer.specs.facts.Small.{small_concat}
use Rattle.aat_run.specs.Budget.{extent}
use Rattle.aat_run.specs.Driven.{StaysWithin}
use Rattle.aat_run.specs.Laws.{SameSettings}
use Rattle.aat_run.specs.facts.Settings.{settings_then}
use Rattle.aat_morx.specs.Substitution.{prepared}

-- the ids of a prepared line
pub prepared_ids : (b : Buffer) → IsSmall b → IsSmall (prepared b)
prepared_ids b small = small_concat (without_positions b) None None small

-- nor does preparing touch the settings
pub prepared_settings : (b : Buffer) → SameSettings b (prepared b)
prepared_settings b = record {
  direction = of_concat (λ (x : Buffer). x.direction) (without_positions b) None None (λ gs. refl);
  cluster_level = of_concat (λ (x : Buffer). x.cluster_level) (without_positions b) None None (λ gs. refl);
  flags = of_concat (λ (x : Buffer). x.flags) (without_positions b) None None (λ gs. refl);
  scratch_flags = of_concat (λ (x : Buffer). x.scratch_flags) (without_positions b) None None (λ gs. refl);
  max_len = of_concat (λ (x : Buffer). x.max_len) (without_positions b) None None (λ gs. refl);
  successful = of_concat (λ (x : Buffer). x.successful) (without_positions b) None None (λ gs. refl);
}

-- preparing takes no turn, and adds to no bound
pub prepared_within : (b : Buffer) → IsSmall b → StaysWithin 0 b (prepared b) 0
prepared_within b small =
    let long : length (prepared b).line ≡ length b.line = length_concat (without_positions b) None None in
    let same : (prepared b).max_ops ≡ b.max_ops = of_concat (λ (x : Buffer). x.max_ops) (without_positions b) None None (λ gs. refl) in
    record {
      ids = prepared_ids b small;
      counted = omega arith;
      extent = rw (long, same) (omega arith);
      settings = prepared_settings b;
    }

-- what stays within behind preparing stays within
pub within_from_prepared : (count turns : ℕ) (b d : Buffer) → StaysWithin count (prepared b) d turns → StaysWithin count b d turns
within_from_prepared count turns b d k =
    let long : length (prepared b).line ≡ length b.line = length_concat (without_positions b) None None in
    let same : extent (prepared b) ≡ extent b = rw long refl in
    record { ids = k.ids; counted = rw same at k.counted; extent = rw same at k.extent; settings = settings_then b (prepared b) d (prepared_settings b) k.settings }
