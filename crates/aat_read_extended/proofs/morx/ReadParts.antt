-- What is known of records, features, subtables and chains that are read.
use Rattle.std.proofs.Common.{◌≡◌, ℕ, zero, suc, ◌+◌, ◌-◌, ◌*◌, ◌≤◌, List, [], ◌∷◌, length, take, min, Bool, true, false, cond, Result, Ok, Err, refl, sym, ap, ◌∙◌, subst, arith, ◌==◌}
use Rattle.std.specs.Prelude.{nat_lt, ◌||◌}
use Rattle.std.proofs.lemmas.Bool.{ltb-false}
use Rattle.std.proofs.lemmas.List.{length-take}
use Rattle.aat_bytes.specs.Faults.{after}
use Rattle.aat_bytes.specs.Numbers.{be16, be32}
use Rattle.aat_bytes.specs.declared.error.Fault.{Fault}
use Rattle.aat_machine_tables.specs.declared.morx.ChainFeature.{ChainFeature}
use Rattle.aat_machine_tables.specs.declared.morx.Subtable.{Subtable}
use Rattle.aat_bytes.specs.facts.Parts.{ok_parts, parts, passes}
use Rattle.aat_read_machine.specs.SubtableKinds.{subtable_kind_at}
use Rattle.aat_read_extended.specs.morx.ChainFeatures.{features_at, whole_features}
use Rattle.aat_read_extended.specs.morx.ChainSubtables.{coverage_at, flags_at, kind_at, subtable_at, subtables_at}
use Rattle.aat_read_extended.specs.morx.Chains.{ChainStart, ChainValue, chain_at, chain_value_at, first_chain, morx_of, start_behind}
use Rattle.aat_read_extended.specs.morx.ChainsOfBytes.{feature_place}
use Rattle.aat_read_machine.specs.InTurn.{end_by, in_turn}
use Rattle.aat_read_extended.specs.morx.InTurn.{end_at}
use Rattle.aat_read_extended.specs.morx.Weights.{chain_reach}
use Rattle.aat_read_extended.specs.declared.morx.reach.Reach.{Reach}

-- bytes that are cut
pub taken_low : (bytes : List ℕ) (n : ℕ) → length (take n bytes) ≤ n
taken_low bytes n = let is : length (take n bytes) ≡ min n (length bytes) = length-take n bytes in omega (arith, is)

pub taken_high : (bytes : List ℕ) (n : ℕ) → length (take n bytes) ≤ length bytes
taken_high bytes n = let is : length (take n bytes) ≡ min n (length bytes) = length-take n bytes in omega (arith, is)

-- where a record ends that is read: by its length, behind its header, and in the bytes
pub record Ends (bytes : List ℕ) (place header field end : ℕ) : Type 0 where
  pub is : end_by bytes field place ≡ end
  pub low : place + header ≤ end
  pub high : end ≤ length bytes

pub ends :
    (bytes : List ℕ) (place header field end : ℕ)
    → end_at bytes place header field ≡ Ok end → Ends bytes place header field end
unfolding end_at
ends bytes place header field end is =
    let size = be32 bytes (place + field) in
    let whole = passes (nat_lt (length bytes) (place + header)) _ _ end is in
    let long = passes (nat_lt size header) _ _ end whole.1 in
    let within = passes (nat_lt (length bytes) (place + size)) _ _ end long.1 in
    let same : place + size ≡ end = ok_parts (place + size) end within.1 in
    let low : header ≤ size = ltb-false size header long.0 in
    let high : place + size ≤ length bytes = ltb-false (length bytes) (place + size) within.0 in
    record { is = same; low = omega (arith, same, low); high = omega (arith, same, high) }

-- features that are read stand before an end
pub record ReadFeatures (bytes : List ℕ) (place end count : ℕ) (features : List ChainFeature) : Type 0 where
  pub inside : place + 12 * count ≤ end
  pub all : features_at (take end bytes) place count ≡ features

pub features_parts :
    (bytes : List ℕ) (place end count : ℕ) (features : List ChainFeature)
    → whole_features (take end bytes) place count ≡ Ok features → ReadFeatures bytes place end count features
unfolding whole_features
features_parts bytes place end count features is =
    let whole = passes (nat_lt (length (take end bytes)) (place + 12 * count)) _ _ features is in
    let fits = ltb-false (length (take end bytes)) (place + 12 * count) whole.0 in
    let short = taken_low bytes end in
    record { inside = omega (arith, fits, short); all = ok_parts _ features whole.1 }

module _ (bytes : List ℕ) (glyph_count : ℕ) where
  -- a subtable that is read, up to its end
  pub record ReadSubtable (reach : Reach) (place end : ℕ) (s : Subtable) : Type 0 where
    pub ended : end_at (take reach.end bytes) place 12 0 ≡ Ok end
    pub kind :
        subtable_kind_at (take (end + reach.allowance) bytes) (place + 12) (kind_at bytes place) glyph_count ≡ Ok s.kind
    pub coverage : s.coverage ≡ coverage_at bytes place
    pub flags : s.feature_flags ≡ flags_at bytes place

  pub subtable_parts :
      (reach : Reach) (place end : ℕ) (s : Subtable)
      → subtable_at bytes glyph_count reach place ≡ Ok (s, end) → ReadSubtable reach place end s
  unfolding subtable_at
  subtable_parts reach place end s is =
      let ended = parts (end_at (take reach.end bytes) place 12 0) _ (s, end) is in
      let used = take (ended.0 + reach.allowance) bytes in
      let does = parts (subtable_kind_at used (place + 12) (kind_at bytes place) glyph_count) _ (s, end) ended.2 in
      let read : Subtable = record { kind = does.0; coverage = coverage_at bytes place; feature_flags = flags_at bytes place } in
      let whole : ◌≡◌ {A = Subtable × ℕ} (read, ended.0) (s, end) = ok_parts _ (s, end) does.2 in
      let here : ReadSubtable reach place ended.0 read =
      record { ended = ended.1; kind = does.1; coverage = refl; flags = refl } in
      subst (λ (r : Subtable × ℕ). ReadSubtable reach place r.1 r.0) whole here

  -- a chain that is read between its start and an end
  pub record ReadChain (start : ChainStart) (end : ℕ) (c : ChainValue) : Type 0 where
    pub few : be32 bytes (start.place + 12) ≤ start.most_subtables
    pub flags : c.default_flags ≡ be32 bytes start.place
    pub features :
        whole_features (take end bytes) (start.place + 16) (be32 bytes (start.place + 8)) ≡ Ok c.features
    pub subtables :
        subtables_at bytes glyph_count (chain_reach bytes start.place end) (be32 bytes (start.place + 12))
        (feature_place start.place (be32 bytes (start.place + 8)))
        ≡ Ok c.subtables

  pub chain_parts :
      (start : ChainStart) (end : ℕ) (c : ChainValue)
      → chain_value_at bytes glyph_count start end ≡ Ok c → ReadChain start end c
  unfolding chain_value_at
  chain_parts start end c is =
      let feature_count = be32 bytes (start.place + 8) in
      let many = be32 bytes (start.place + 12) in
      let reach : Reach = chain_reach bytes start.place end in
      let enough = passes (nat_lt start.most_subtables many) _ _ c is in
      let features = parts (whole_features (take end bytes) (start.place + 16) feature_count) _ c enough.1 in
      let subtables =
      parts (subtables_at bytes glyph_count reach many (feature_place start.place feature_count)) _ c features.2 in
      let read : ChainValue = record {
        default_flags = be32 bytes start.place;
        features = features.0;
        subtables = subtables.0;
      } in
      let same : read ≡ c = ok_parts read c subtables.2 in
      let here : ReadChain start end read = record {
        few = ltb-false start.most_subtables many enough.0;
        flags = refl;
        features = features.1;
        subtables = subtables.1;
      } in
      subst (λ (k : ChainValue). ReadChain start end k) same here

  -- a chain that is read, and where the next one starts
  pub record ReadTurn (start next : ChainStart) (c : ChainValue) : Type 0 where
    pub ended : end_at bytes start.place 16 4 ≡ Ok next.place
    pub value : chain_value_at bytes glyph_count start next.place ≡ Ok c
    pub left : start.most_subtables - length c.subtables ≡ next.most_subtables

  pub turn_parts :
      (start next : ChainStart) (c : ChainValue)
      → chain_at bytes glyph_count start ≡ Ok (c, next) → ReadTurn start next c
  unfolding chain_at
  turn_parts start next c is =
      let ended = parts (end_at bytes start.place 16 4) _ (c, next) is in
      let read = parts (chain_value_at bytes glyph_count start ended.0) _ (c, next) ended.2 in
      let behind : ChainStart = start_behind start.most_subtables read.0 ended.0 in
      let whole : ◌≡◌ {A = ChainValue × ChainStart} (read.0, behind) (c, next) = ok_parts _ (c, next) read.2 in
      let here : ReadTurn start behind read.0 = record { ended = ended.1; value = read.1; left = refl } in
      subst (λ (r : ChainValue × ChainStart). ReadTurn start r.1 r.0) whole here

-- the version is known where a table is read
version_passes : {X : Type 0} (b : Bool) (fault : Fault) (r : Result X Fault) (x : X)
    → cond b r (Err fault) ≡ Ok x → r ≡ Ok x
version_passes true fault r x is = is
version_passes false fault r x is = cc

-- the chains of a table that is read stand behind its header
pub table_parts :
    (bytes : List ℕ) (glyph_count : ℕ) (chains : List ChainValue)
    → morx_of bytes glyph_count ≡ Ok chains
    → (8 ≤ length bytes) × (in_turn (chain_at bytes glyph_count) (be32 bytes 4) first_chain ≡ Ok chains)
unfolding morx_of
table_parts bytes glyph_count chains is =
    let header = passes (nat_lt (length bytes) 8) _ _ chains is in
    let read = version_passes ((be16 bytes 0 == 2) || (be16 bytes 0 == 3)) _ _ chains header.1 in
    (ltb-false (length bytes) 8 header.0, read)
