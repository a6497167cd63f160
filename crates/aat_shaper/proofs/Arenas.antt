-- An arena may cross threads where its parent allocator may, and its memory may be freed anywhere.
use Rattle.std.specs.Prelude.{ℕ, zero, suc, ◌+◌, ◌-◌, ◌%◌, ◌==◌, Bool, true, false}
use mir.Syntax.{Ty, Width, w8, w16, w32, w64, ty_int}
use base.Fml.{Fml, fsep, froom}
use base.Shift.{Keyless}
use denote.Exit.{Exit, unchanged, leaves, hidden, under}
use denote.RattleType.{RattleType}
use denote.RawPtr.{Ptr}
use denote.Struct.Struct.{exits_of}
use denote.Struct.Owning.{shape, fields, to}
use denote.Struct.Declared as S
use denote.Struct.Field.{row_field}
use denote.Param.Send.{IsSend, Quiet, Frees, owning_send, struct_send, sendable}
use denote.Param.SendFields.{declared_send, as_row_send}
use Rattle.std.proofs.Crossing
use Rattle.std.proofs.Crossing.{crosses}
use Rattle.std.specs.contracts.alloc.Global as heap
use Rattle.std.specs.contracts.impls.GlobalAllocator.TheImpl.{ghosts}
use Rattle.std.specs.declared.alloc.Allocator.{Ghosts}
use Rattle.bumpalo.specs.Spare.{either, level, spare, by_2, by_4, by_8, by_16}
use Rattle.bumpalo.specs.Ownership.{Epoch, Place, Footer, returns, chunk, chunks, listed, arena}
use Rattle.bumpalo.specs.contracts.bump.Bump as bump
use Rattle.bumpalo.specs.contracts.current.Current as current
use Rattle.bumpalo.specs.contracts.current.Current.TheInside as inside
use Rattle.bumpalo.specs.contracts.loan.Life as life
use Rattle.aat_shaper.specs.contracts.workspace.Workspace as workspace

quiet : {D X : Type 0} (to : D → X) (e : Exit X) → Quiet e → Quiet (hidden (under to e))
quiet to unchanged q = λ x w. tt
quiet to (leaves L l S s r₀) q = λ d. q (to d)

one_of : (y : Bool) (P Q : Fml) → Keyless P → Keyless Q → Keyless (either y P Q)
one_of true P Q p q = p
one_of false P Q p q = q

module _ (b o : ℕ) where
  level-Keyless : (w : Width) (n : ℕ) (wider : ℕ → Fml) → ((x : ℕ) → Keyless (wider x)) → (x : ℕ) → Keyless (level b o w n wider x)
  level-Keyless w n wider k x = one_of (x % (n + n) == 0) (wider x) (fsep (wider (x - n)) (froom (ty_int w) b (o + (x - n)))) (k x) (k (x - n), tt)

  by_16-Keyless : (x : ℕ) → Keyless (by_16 b o x)
  unfolding by_16
  by_16-Keyless x = tt

  by_8-Keyless : (x : ℕ) → Keyless (by_8 b o x)
  unfolding by_8
  by_8-Keyless = level-Keyless w64 8 (by_16 b o) by_16-Keyless

  by_4-Keyless : (x : ℕ) → Keyless (by_4 b o x)
  unfolding by_4
  by_4-Keyless = level-Keyless w32 4 (by_8 b o) by_8-Keyless

  by_2-Keyless : (x : ℕ) → Keyless (by_2 b o x)
  unfolding by_2
  by_2-Keyless = level-Keyless w16 2 (by_4 b o) by_4-Keyless

  spare-Keyless : (x : ℕ) → Keyless (spare b o x)
  unfolding spare
  spare-Keyless = level-Keyless w8 1 (by_2 b o) by_2-Keyless

module _ (t : Ty → Ptr → Fml) (f : (τ : Ty) (p : Ptr) → Keyless (t τ p)) where
  returns-Keyless : (a : ℕ) (c : Place) (n : ℕ) → Keyless (returns t a c n)
  returns-Keyless a c n = ((tt, tt), (spare-Keyless c.0 c.1 n, f _ _))

  chunk-Keyless : (a : ℕ) (c : Footer) → Keyless (chunk t a c)
  chunk-Keyless a c = (tt, (spare-Keyless c.chunk.0 c.chunk.1 c.ptr, returns-Keyless a c.chunk c.capacity))

  chunks-Keyless : (a n : ℕ) (p : Ptr) → Keyless (chunks t a n p)
  chunks-Keyless a zero p = tt
  chunks-Keyless a (suc n) p = λ c is. (chunk-Keyless a c, chunks-Keyless a n c.prev)

  listed-Keyless : (e : Epoch) (n : ℕ) (p : Ptr) → Keyless (listed t e n p)
  unfolding base.Growing.latest
  listed-Keyless e zero p = tt
  listed-Keyless e (suc n) p = λ s is. (tt, (chunk-Keyless e.life s.0, chunks-Keyless e.life n s.0.prev))

  arena-Keyless : (e : Epoch) (p : Ptr) (n live : ℕ) → Keyless (arena t e p n live)
  arena-Keyless e p n live = (((λ s c. (tt, tt)), tt), listed-Keyless e n p)

module _ (A : RattleType) (g : Ghosts A.Denot) where
  inside_send : IsSend (inside.the_row A g)
  inside_send = search sendable depth 20

  current_send : Frees g g.dealloc_token → IsSend (current.the_row A g)
  current_send f = record {
    owned = λ c vs. ((λ _. tt), λ i. (inside_send.owned i vs, arena-Keyless (g.dealloc_token c.1) (f.frees c.1) c.0 i.footer i.chunks i.live));
    leaving = λ k x w. tt;
  }

life_send : IsSend life.the_row
life_send = let O = life.the_type in owning_send O tt (λ d. tt) (λ k. quiet (to O) (exits_of k (fields O)) ((struct_send (shape O) tt).leaving k))

-- its parts, as fields of a struct
current_field_send : IsSend (current.the_field heap.the_row ghosts).row
current_field_send = current_send heap.the_row ghosts Crossing.frees

life_field_send : IsSend (life.the_field).row
life_field_send = life_send

-- an arena
pub bump_send : (A : RattleType) (g : Ghosts A.Denot) → IsSend A → Frees g g.dealloc_token → IsSend (bump.the_row A g)
bump_send A g s f = declared_send (bump.the_type A g) (as_row_send (row_field A) s, (current_send A g f, (life_send, (search (sendable, crosses) depth 20, tt))))

-- an arena over the heap, as a field of a struct
pub bump_field_send : IsSend (bump.the_field heap.the_row ghosts).row
bump_field_send = struct_send (S.shape (bump.the_type heap.the_row ghosts)) (Crossing.send, (current_field_send, (life_field_send, (search (sendable, crosses) depth 20, tt))))

-- a workspace
pub workspace_send : (A : RattleType) (g : Ghosts A.Denot) → IsSend A → Frees g g.dealloc_token → IsSend (workspace.the_row A g)
workspace_send A g s f = declared_send (workspace.the_type A g) (bump_send A g s f, tt)

-- a workspace as a field
pub workspace_field_send : IsSend (workspace.the_field heap.the_row ghosts).row
workspace_field_send = struct_send (S.shape (workspace.the_type heap.the_row ghosts)) (bump_field_send, tt)
