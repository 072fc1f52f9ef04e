-- Laws of the tests of one word: what the code works out from a word's fields is what the meaning asks of the word.
use Rattle.std.proofs.Math.Bool.{or-false}
use Rattle.std.specs.Prelude.{◌≡◌, refl, Bool, true, false, not, ◌&&◌, ◌||◌, List, [], ◌∷◌, ℕ, ◌≤◌, eqb, leb, ltb, length, Result, Ok, Err, is_ok, ◌⊎◌}
use Rattle.std.proofs.Common.{◌∙◌, inl, inr}
use Rattle.word.specs.Fields as W
use Rattle.word.specs.Kinds.{IsClass, IsRelation, IsTableType, table_type_number}
use Rattle.word.specs.declared.kinds.Class.{Class}
use Rattle.word.specs.declared.kinds.Relation.{Relation}
use Rattle.word.specs.declared.kinds.TableType.{TableType}
use Rattle.word.specs.declared.kinds.TableType.TheVariants as T
use Rattle.word.specs.declared.kinds.Unnamed.{Unnamed}
use Rattle.word.specs.Limits as Max
use Rattle.meaning.specs.Searches.{mem, within}
use Rattle.meaning.specs.Lookup.{variable_at}
use Rattle.meaning.specs.Reading.{word, fits, condition_kinds, event_kinds, variable_ok, test_ok, row_ok, table_ok, table_fits}
use Rattle.index.specs.Places.{variables_to}
use Rattle.reader.specs.declared.faults.Fault.TheVariants.{Range}
use Rattle.reader.specs.declared.headings.Heading.{Heading}
use Rattle.reader.specs.Headings.{HeadingOf, HeadingAs}
use Rattle.index.proofs.Laws.{past_end, variables_length}

module _ (w k : ℕ) (clear : Bool) (ek : k ≡ W.kind w) (ec : clear ≡ W.spare_clear w) where
  pub one_kind : (kind : ℕ) → (eqb k kind && clear) ≡ fits (kind ∷ []) w
  unfolding fits mem
  one_kind kind = rw (ec, ek, or-false (eqb (W.kind w) kind))

  pub condition_kind : ((eqb k 4 || (eqb k 5 || (eqb k 6 || (eqb k 7 || eqb k 9)))) && clear) ≡ fits condition_kinds w
  unfolding fits mem
  condition_kind = rw (ec, ek, or-false (eqb (W.kind w) 9))

  pub event_kind : ((eqb k 7 || (eqb k 8 || eqb k 9)) && clear) ≡ fits event_kinds w
  unfolding fits mem
  event_kind = rw (ec, ek, or-false (eqb (W.kind w) 9))

-- past the end stands 0, whose kind is 0
pub kind_past : (ws : List ℕ) (i : ℕ) → length ws ≤ i → W.kind (word ws i) ≡ 0
unfolding W.kind
kind_past ws i h = rw (← past_end ws i h)

pub variable_fields : (w class n first : ℕ) (known : Bool) → class ≡ W.sort w → n ≡ W.size w → first ≡ W.initial w
    → (r : Result Class Unnamed) → IsClass class r → known ≡ is_ok r
    → (((known && (leb Max.min_size n && leb n Max.max_size)) && (not (eqb class 2) || leb n Max.max_modes)) && ltb first n) ≡ variable_ok w
unfolding variable_ok within
variable_fields w class n first known ec en ef r er ek = rw (ek, er.0, ec, en, ef)

module _ (ws ps : List ℕ) (n w : ℕ) where
  pub test_fields : (v how k values : ℕ) (related : Bool) → v ≡ W.variable w → how ≡ W.relation w → k ≡ W.value w
      → (r : Result Relation Unnamed) → IsRelation how r → related ≡ is_ok r
      → values ≡ (variable_at (variables_to ws ps n) v).size
      → ((ltb v n && related) && ltb k values) ≡ test_ok (variables_to ws ps n) w
  unfolding test_ok
  test_fields v how k values related ev eh ek r er el es = rw (variables_length ws ps n, es, el, er.0, ev, eh, ek)

  pub row_fields : (v m r k modes values : ℕ) → r ≡ W.mode w → k ≡ W.value w
      → modes ≡ (variable_at (variables_to ws ps n) m).size → values ≡ (variable_at (variables_to ws ps n) v).size
      → ((eqb r Max.any || (not (eqb m Max.any) && ltb r modes)) && ltb k values) ≡ row_ok (variables_to ws ps n) v m w
  unfolding row_ok
  row_fields v m r k modes values er ek em ev = rw (er, ek, em, ev)

-- ---- the heading of a table
module _ (ws ps : List ℕ) (n at w t v m : ℕ) (ew : w ≡ word ws at) (et : t ≡ W.sort w) (ev : v ≡ W.defined w) (em : m ≡ W.class_read w)
    (r : Result TableType Unnamed) (er : IsTableType t r) where
  ranges : (b : Bool) → ((is_ok r && ltb v n) && (eqb m Max.any || ltb m n)) ≡ b → table_ok (variables_to ws ps n) (word ws at) ≡ b
  unfolding table_ok within
  ranges b e = rw (← ew, ← et, ← ev, ← em, variables_length ws ps n, ← er.0) e

  pub heading_said : (k : TableType) → r ≡ Ok k → (ltb v n && (eqb m Max.any || ltb m n)) ≡ true
      → HeadingAs (variables_to ws ps n) (word ws at) at (Ok (record { table_type = k; variable = v; class_read = m }))
  unfolding HeadingAs
  heading_said k ek e =
      let named : table_type_number k ≡ t = (rw ek at er).1 in (
        ranges true (rw ek e),
        record { type_is = named ∙ rw (← ew) et; variable_is = rw (← ew) ev; class_is = rw (← ew) em },
      )

  pub heading_ranged : (k : TableType) → r ≡ Ok k → (ltb v n && (eqb m Max.any || ltb m n)) ≡ false
      → HeadingAs (variables_to ws ps n) (word ws at) at (Err (Range at))
  unfolding HeadingAs
  heading_ranged k ek e = (ranges false (rw ek e), refl)

  pub heading_untyped : (u : Unnamed) → r ≡ Err u → HeadingAs (variables_to ws ps n) (word ws at) at (Err (Range at))
  unfolding HeadingAs
  heading_untyped u eu = (ranges false (rw eu refl), refl)

module _ (ws ps : List ℕ) (n : ℕ) (h : Heading) (class read : ℕ) (ec : class ≡ (variable_at (variables_to ws ps n) h.variable).class)
    (er : read ≡ (variable_at (variables_to ws ps n) h.class_read).class) (w : ℕ) (is : HeadingOf w h) where
  pub mode_fits : h.table_type ≡ T.Mode → (eqb class 2 && eqb h.class_read h.variable) ≡ table_fits (variables_to ws ps n) w
  unfolding table_fits
  mode_fits e = rw (← is.type_is, ← is.variable_is, ← is.class_is, e, ec)

  other_fits : (eqb (table_type_number h.table_type) 1 ≡ false) → (leb 3 class && (eqb h.class_read Max.any || eqb read 2)) ≡ table_fits (variables_to ws ps n) w
  unfolding table_fits
  other_fits e = rw (← is.type_is, ← is.variable_is, ← is.class_is, e, ec, er)

  pub event_fits : (h.table_type ≡ T.Event) ⊎ (h.table_type ≡ T.Condition)
      → (leb 3 class && (eqb h.class_read Max.any || eqb read 2)) ≡ table_fits (variables_to ws ps n) w
  event_fits (inl e) = other_fits (rw e refl)
  event_fits (inr e) = other_fits (rw e refl)

pub ruleset heading_laws = (heading_said, heading_ranged, heading_untyped)

pub ruleset fit_laws = (mode_fits, event_fits)
