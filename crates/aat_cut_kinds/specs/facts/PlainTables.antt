-- An insertion table whose entries that put no glyphs in name no run, made of any one. It acts where that acts.
use Rattle.std.proofs.Common.{◌≡◌, ◌∙◌, ℕ, ◌+◌, ◌*◌, ◌==◌, ◌&&◌, ◌||◌, not, Bool, true, false, cond, List, [], ◌∷◌, map, Option, Some, None, find, option_map, refl, ap, subst, sym}
use Rattle.std.proofs.lemmas.Option.{same_Some}
use Rattle.aat_machine_tables.specs.Entries.{goes_on, has_flag, is_present}
use Rattle.aat_machine_tables.specs.Table.{Rule, TableValue, entry_of, known_class, rule_key}
use Rattle.aat_lookup.specs.Truth.{is_some_and, is_alike}
use Rattle.aat_machine_tables.specs.declared.entries.InsertionEntryData.{InsertionEntryData}
use Rattle.aat_lookup.specs.declared.glyph_id.GlyphId.{GlyphId}
use Rattle.aat_run.specs.Context.{Config, Machine, machine_of}
use Rattle.aat_run.specs.Safe.{is_safe}
use Rattle.aat_kinds.specs.Insertion.{Entry, Registers, actionable, context}
use Rattle.aat_cut_kinds.specs.Settled.{HasEntries, IsPlain}

-- no index
abbrev pub no_run : InsertionEntryData
no_run = record { current_insert_index = 0xFFFF; marked_insert_index = 0xFFFF }

-- the entry, where it puts none in without its indexes
abbrev pub plain_entry : Entry → Entry
plain_entry e = record e { extra = cond (has_flag e 0x03FF) e.extra no_run }

-- the rule with its entry
abbrev plain_rule : Rule Entry → Rule Entry
plain_rule r = (r.0, r.1, plain_entry r.2)

-- the table with its entries
abbrev pub plain_table : TableValue Entry → TableValue Entry
plain_table table = record table { rules = map plain_rule table.rules }

-- an entry that puts some in stays, and another one names no run
pub plain_stays : (e : Entry) → has_flag e 0x03FF ≡ true → plain_entry e ≡ e
plain_stays e some = λ i. record e { extra = cond (some i) e.extra no_run }

pub plain_names_none : (e : Entry) → has_flag e 0x03FF ≡ false → (is_present (plain_entry e).extra.marked_insert_index ≡ false) × (is_present (plain_entry e).extra.current_insert_index ≡ false)
plain_names_none e none =
    (ap (λ (t : Bool). is_present (cond t e.extra no_run).marked_insert_index) none, ap (λ (t : Bool). is_present (cond t e.extra no_run).current_insert_index) none)

-- it is actionable where that is
acts_same : (e : Entry) → (has_flag e 0x03FF && (is_present (plain_entry e).extra.current_insert_index || is_present (plain_entry e).extra.marked_insert_index))
    ≡ (has_flag e 0x03FF && (is_present e.extra.current_insert_index || is_present e.extra.marked_insert_index))
acts_same e = by_flag (has_flag e 0x03FF)
  where
    by_flag : (t : Bool) → (t && (is_present (cond t e.extra no_run).current_insert_index || is_present (cond t e.extra no_run).marked_insert_index))
        ≡ (t && (is_present e.extra.current_insert_index || is_present e.extra.marked_insert_index))
    by_flag true = refl
    by_flag false = refl

-- a search of the rules
entry_found : (rules : List (Rule Entry)) (n : ℕ)
    → option_map (λ (r : Rule Entry). r.2) (find (λ (r : Rule Entry). rule_key r == n) (map plain_rule rules)) ≡ option_map plain_entry (option_map (λ (r : Rule Entry). r.2) (find (λ (r : Rule Entry). rule_key r == n) rules))
entry_found [] n = refl
entry_found (r ∷ rules) n = by_key (rule_key r == n) (entry_found rules n)
  where
    by_key : (t : Bool)
        → option_map (λ (x : Rule Entry). x.2) (find (λ (x : Rule Entry). rule_key x == n) (map plain_rule rules)) ≡ option_map plain_entry (option_map (λ (x : Rule Entry). x.2) (find (λ (x : Rule Entry). rule_key x == n) rules))
        → option_map (λ (x : Rule Entry). x.2) (cond t (Some (plain_rule r)) (find (λ (x : Rule Entry). rule_key x == n) (map plain_rule rules)))
        ≡ option_map plain_entry (option_map (λ (x : Rule Entry). x.2) (cond t (Some r) (find (λ (x : Rule Entry). rule_key x == n) rules)))
    by_key true rest = refl
    by_key false rest = rest

module _ (table : TableValue Entry) where
  -- the entry of a state and class
  pub entry_same : (s k : ℕ) → entry_of (plain_table table) s k ≡ option_map plain_entry (entry_of table s k)
  entry_same s k = entry_found table.rules (s * 65536 + known_class table.class_count k)

  -- it is complete where the table is
  pub plain_complete : (reached : ℕ → Bool) → HasEntries table reached → HasEntries (plain_table table) reached
  plain_complete reached all = record {
    first = all.first;
    entries = λ s k known. let e = all.entries s k known in (plain_entry e.0, entry_same s k ∙ ap (option_map plain_entry) e.1, e.2);
  }

  -- and plain
  pub is_plain : IsPlain (plain_table table)
  is_plain s k e found none = by_entry (entry_of table s k) (sym (entry_same s k) ∙ found)
    where
      by_entry : (o : Option Entry) → option_map plain_entry o ≡ Some e → (is_present e.extra.marked_insert_index ≡ false) × (is_present e.extra.current_insert_index ≡ false)
      by_entry None is = absurd (cc)
      by_entry (Some f) is =
          let same : plain_entry f ≡ e = same_Some (plain_entry f) e is in
          let quiet : has_flag f 0x03FF ≡ false = ap (λ (x : Entry). has_flag x 0x03FF) same ∙ none in
          subst (λ (x : Entry). (is_present x.extra.marked_insert_index ≡ false) × (is_present x.extra.current_insert_index ≡ false)) same (plain_names_none f quiet)

  module _ (on : ℕ → Bool) (glyphs : List GlyphId) where
    -- the machines of the two tables
    abbrev pub machine : Machine Registers Entry
    machine = machine_of on table (context glyphs)

    abbrev pub plain_machine : Machine Registers Entry
    plain_machine = machine_of on (plain_table table) (context glyphs)

    -- a turn is safe where it was
    pub safe_same : (e : Entry) (from_start at_end : Option Entry) (c d : Config Registers) → c.state ≡ d.state
        → is_safe machine e from_start at_end c ≡ is_safe plain_machine (plain_entry e) (option_map plain_entry from_start) (option_map plain_entry at_end) d
    unfolding is_safe
    safe_same e from_start at_end c d state =
        λ i. not (idle e i) && (((state i == 0) || ((not (goes_on e) && (e.new_state == 0)) || start from_start i)) && end at_end i)
      where
        idle : (f : Entry) → actionable f c.registers c.buffer.cursor 0 ≡ actionable (plain_entry f) d.registers d.buffer.cursor 0
        idle f = sym (acts_same f)

        start : (o : Option Entry) → is_some_and o (λ (f : Entry). not (actionable f c.registers c.buffer.cursor 0) && ((f.new_state == e.new_state) && is_alike (goes_on f) (goes_on e)))
            ≡ is_some_and (option_map plain_entry o) (λ (f : Entry). not (actionable f d.registers d.buffer.cursor 0) && ((f.new_state == e.new_state) && is_alike (goes_on f) (goes_on e)))
        start None = refl
        start (Some f) = λ i. not (idle f i) && ((f.new_state == e.new_state) && is_alike (goes_on f) (goes_on e))

        end : (o : Option Entry) → is_some_and o (λ (f : Entry). not (actionable f c.registers c.buffer.cursor 0)) ≡ is_some_and (option_map plain_entry o) (λ (f : Entry). not (actionable f d.registers d.buffer.cursor 0))
        end None = refl
        end (Some f) = λ i. not (idle f i)
