-- A table of chains that is written is read again.
use Rattle.std.proofs.Common.{◌≡◌, ℕ, ◌<◌, List, true, All, Result, Ok, Err, refl, sym, ◌∙◌, subst, arith}
use Rattle.std.specs.List.{AllZip}
use Rattle.aat_bytes.specs.facts.Parts.{ok_parts as same_parts}
use Rattle.aat_machine_tables.specs.declared.morx.Subtable.{Subtable}
use Rattle.aat_machine_tables.specs.declared.morx.SubtableKind.{SubtableKind}
use Rattle.aat_machine_tables.specs.declared.morx.SubtableKind.TheVariants.{Rearrangement, Contextual, Ligature, NonContextual, Insertion}
use Rattle.aat_read_extended.specs.morx.ChainSubtables.{is_known}
use Rattle.aat_read_extended.specs.morx.Chains.{ChainValue, morx_of}
use Rattle.aat_write_machine.specs.SubtableKindLaws.{ReadsAs, SubtableKindsAreRead}
use Rattle.aat_write_machine.specs.SubtableKinds.{kind_number, kind_written}
use Rattle.aat_write_machine.specs.declared.error.MorxWriteError.{MorxWriteError}
use Rattle.aat_write_machine.specs.ChainBytes.{ChainContent, SubtableContent, chains_written}
use Rattle.aat_write_machine.specs.ChainLaws.{DoesAsRead, IsChain, IsReadable, IsSameChain, IsSameSubtable, IsSubtable}
use Rattle.aat_write_machine.specs.MorxBytes.{chain_content, contents_written, each_written, subtable_content}
use Rattle.aat_write_machine.specs.MorxLaws.{ChainReadsAs, IsTypedChain, IsTypedSubtable, SubtableReadsAs, WrittenMorxIsRead}
use Rattle.aat_write_machine.proofs.EachWritten.{all_second, composed, ok_parts, parts, zipped}
use Rattle.aat_write_machine.proofs.TablesAgain.{written_chains_are_read}

-- the numbers of kinds are small and known
number_is_known : (kind : SubtableKind) → (kind_number kind < 256) × (is_known (kind_number kind) ≡ true)
number_is_known (Rearrangement t) = (omega arith, refl)
number_is_known (Contextual t) = (omega arith, refl)
number_is_known (Ligature t) = (omega arith, refl)
number_is_known (NonContextual pairs) = (omega arith, refl)
number_is_known (Insertion t) = (omega arith, refl)

-- what is written of a subtable, and what is read of it
record Wraps (glyph_count : ℕ) (s : Subtable) (content : SubtableContent) : Type 0 where
  pub small : IsSubtable content
  pub readable : IsReadable glyph_count content
  pub same : (read : Subtable) → IsSameSubtable (DoesAsRead glyph_count) content read → SubtableReadsAs s read

module _ (law : SubtableKindsAreRead) (glyph_count : ℕ) where
  abbrev content_of : Subtable → List ℕ → SubtableContent
  content_of s body = record { kind = kind_number s.kind; coverage = s.coverage; feature_flags = s.feature_flags; body = body }

  wraps_body : (s : Subtable) (body : List ℕ) → IsTypedSubtable s → kind_written s.kind ≡ Ok body → Wraps glyph_count s (content_of s body)
  wraps_body s body typed written =
      let number = number_is_known s.kind in
      let read_at = λ (before after : List ℕ). law s.kind body before after glyph_count typed.0 written in
      record {
        small = (number.0, number.1, typed.1, typed.2);
        readable = λ before after. let r = read_at before after in (r.0, r.1);
        same = λ read is.
            let at = is.0 in
            let r = read_at at.0 at.1 in
            let does : r.0 ≡ read.kind = same_parts r.0 read.kind (sym r.1 ∙ at.2) in
            (subst (λ (k : SubtableKind). ReadsAs s.kind k) does r.2, is.1, is.2);
      }

  wraps : (s : Subtable) (content : SubtableContent) → IsTypedSubtable s → subtable_content s ≡ Ok content → Wraps glyph_count s content
  wraps s content typed is =
      let body = parts (kind_written s.kind) (λ b. Ok (content_of s b)) content is in
      let made : content_of s body.0 ≡ content = ok_parts (content_of s body.0) content body.2 in
      subst (λ (c : SubtableContent). Wraps glyph_count s c) made (wraps_body s body.0 typed body.1)

  -- what is written of a chain, and what is read of it
  record WrapsChain (c : ChainValue) (content : ChainContent) : Type 0 where
    pub small : IsChain content
    pub readable : All (IsReadable glyph_count) content.subtables
    pub same : (read : ChainValue) → IsSameChain (DoesAsRead glyph_count) content read → ChainReadsAs c read

  abbrev chain_of : ChainValue → List SubtableContent → ChainContent
  chain_of c subtables = record { default_flags = c.default_flags; features = c.features; subtables = subtables }

  abbrev IsWritten : Subtable → SubtableContent → Type 0
  IsWritten s content = IsTypedSubtable s × (subtable_content s ≡ Ok content)

  wraps_subtables : (c : ChainValue) (contents : List SubtableContent) → IsTypedChain c → each_written subtable_content c.subtables ≡ Ok contents → WrapsChain c (chain_of c contents)
  wraps_subtables c contents typed written =
      let zip : AllZip IsWritten c.subtables contents = zipped subtable_content IsTypedSubtable c.subtables contents typed.2 written in
      record {
        small = (typed.0, typed.1, all_second IsWritten IsSubtable (λ s content w. (wraps s content w.0 w.1).small) c.subtables contents zip);
        readable = all_second IsWritten (IsReadable glyph_count) (λ s content w. (wraps s content w.0 w.1).readable) c.subtables contents zip;
        same = λ read is. (
          is.0,
          is.1,
          composed IsWritten (IsSameSubtable (DoesAsRead glyph_count)) SubtableReadsAs (λ s content r w is_same. (wraps s content w.0 w.1).same r is_same)
              c.subtables contents read.subtables zip is.2,
        );
      }

  wraps_chain : (c : ChainValue) (content : ChainContent) → IsTypedChain c → chain_content c ≡ Ok content → WrapsChain c content
  wraps_chain c content typed is =
      let subtables = parts (each_written subtable_content c.subtables) (λ ss. Ok (chain_of c ss)) content is in
      let made : chain_of c subtables.0 ≡ content = ok_parts (chain_of c subtables.0) content subtables.2 in
      subst (λ (k : ChainContent). WrapsChain c k) made (wraps_subtables c subtables.0 typed subtables.1)

  abbrev IsWrittenChain : ChainValue → ChainContent → Type 0
  IsWrittenChain c content = IsTypedChain c × (chain_content c ≡ Ok content)

  contents_read :
      (chains : List ChainValue) (contents : List ChainContent) (bytes : List ℕ)
      → All IsTypedChain chains → each_written chain_content chains ≡ Ok contents → chains_written contents ≡ Ok bytes
      → (read : List ChainValue) × (morx_of bytes glyph_count ≡ Ok read) × AllZip ChainReadsAs chains read
  contents_read chains contents bytes typed written is =
      let zip : AllZip IsWrittenChain chains contents = zipped chain_content IsTypedChain chains contents typed written in
      let small : All IsChain contents =
      all_second IsWrittenChain IsChain (λ c content w. (wraps_chain c content w.0 w.1).small) chains contents zip in
      let readable : All (λ (c : ChainContent). All (IsReadable glyph_count) c.subtables) contents =
      all_second IsWrittenChain (λ (c : ChainContent). All (IsReadable glyph_count) c.subtables) (λ c content w. (wraps_chain c content w.0 w.1).readable) chains contents zip in
      let read = written_chains_are_read contents bytes glyph_count small readable is in (
        read.0,
        read.1,
        composed IsWrittenChain (IsSameChain (DoesAsRead glyph_count)) ChainReadsAs (λ c content r w is_same. (wraps_chain c content w.0 w.1).same r is_same)
            chains contents read.0 zip read.2,
      )

-- chains whose subtables are written
made_contents :
    (contents : Result (List ChainContent) MorxWriteError) (bytes : List ℕ)
    → contents_written contents ≡ Ok bytes
    → (chains : List ChainContent) × (contents ≡ Ok chains) × (chains_written chains ≡ Ok bytes)
made_contents (Ok chains) bytes is = (chains, refl, is)
made_contents (Err e) bytes is = absurd (let wrong : ⊥ = cc in wrong)

-- the law
pub written_morx_is_read : SubtableKindsAreRead → WrittenMorxIsRead
written_morx_is_read law chains bytes glyph_count typed is =
    let contents = made_contents (each_written chain_content chains) bytes is in
    contents_read law glyph_count chains contents.0 bytes typed contents.1 contents.2
