-- Parts of a text, one after the other.
use Rattle.std.proofs.Common.{◌≡◌, ◌∙◌, ◌≤◌, ◌<◌, ℕ, zero, suc, ◌+◌, Bool, true, false, List, [], ◌∷◌, ◌++◌, drop}
use Rattle.std.proofs.Common.{length, get_or, Ok, Err, IsOk, refl, ap, sym, subst, arith, append_assoc, append-nil}
use Rattle.std.proofs.Common.{drop-cons, add-one}
use Rattle.std.proofs.lemmas.List.{drop_all}
use Rattle.zk_mem.specs.Map.{MemoryMap}
use Rattle.zk_text.specs.declared.unit.Unit.{Unit}
use Rattle.zk_text.specs.Extra.{ExtraTable}
use Rattle.zk_text.specs.Meaning.{Units, joined}
use Rattle.zk_text.specs.Places.{Gives, Refuses}
use Rattle.zk_tables.specs.Rectangles.{joined_rows, more_rows, rows_of}
use Rattle.zk_tables.specs.declared.arrays.rectangle.Rectangle.{Rectangle}
use Rattle.zk_tables.proofs.Rows.{rows_length}
use Rattle.zk_step.specs.declared.output.parts.Rest.{Rest}
use Rattle.zk_step.specs.Halves.{GivesSome, rest_on, rest_rows, rest_units, row_line, row_rest}
use Rattle.zk_step.specs.Printed.{stored_all-append}
use Rattle.zk_step.specs.Printing.{units_or_none}
use Rattle.zk_step.specs.Routing.{stored_all}
use Rattle.zk_step.proofs.UpperRows.{ready_rows}

-- ---- units that were given

pub some_twice : {S : Type 0} (gave : S → S → List Unit → Type 0) (twice : (a b c : S) (s t : List Unit)
    → gave a b s → gave b c t → gave a c (s ++ t)) (a b c : S) (x y z : List Unit) → GivesSome gave a b x y
    → GivesSome gave b c y z → GivesSome gave a c x z
some_twice {S} gave twice a b c x y z h k = record {
  units = h.units ++ k.units;
  gives = twice a b c h.units k.units h.gives k.gives;
  is = h.is ∙ ap (λ (us : List Unit). h.units ++ us) k.is ∙ sym (append_assoc h.units k.units z);
}

pub some_none : {S : Type 0} (gave : S → S → List Unit → Type 0) (a : S) (x : List Unit) → gave a a []
    → GivesSome gave a a x x
some_none {S} gave a x h = record { units = []; gives = h; is = refl }

pub some_all : {S : Type 0} (gave : S → S → List Unit → Type 0) (a b : S) (x : List Unit) → gave a b x
    → GivesSome gave a b x []
some_all {S} gave a b x h = record { units = x; gives = h; is = sym (append-nil x) }

pub all_some : {S : Type 0} (gave : S → S → List Unit → Type 0) (a b : S) (x : List Unit)
    → GivesSome gave a b x [] → gave a b x
all_some {S} gave a b x h = subst (gave a b) (sym (h.is ∙ append-nil h.units)) h.gives

-- ---- a text

text_some : {S : Type 0} (gave : S → S → List Unit → Type 0) (a b : S) (us : List Unit) (x y : Units)
    (e : List Unit) → gave a b us → x ≡ joined (Ok us) y → IsOk x → GivesSome gave a b (units_or_none x ++ e)
    (units_or_none y ++ e)
text_some {S} gave a b us x (Ok vs) e h is ok = record { units = us; gives = h; is = rw is (append_assoc us vs e) }
text_some {S} gave a b us x (Err f) e h is ok = let never = rw is at ok in absurd cc

pub part_given : {S : Type 0} (gave : S → S → List Unit → Type 0) (a b : S) (x y : Units) (e : List Unit)
    → Gives gave a b x y → IsOk x → GivesSome gave a b (units_or_none x ++ e) (units_or_none y ++ e)
part_given {S} gave a b x y e h ok = text_some gave a b h.units x y e h.gives h.is ok

pub part_refused : {S : Type 0} (refused : S → S → List Unit → Type 0) (a b : S) (x : Units) (e : List Unit)
    → Refuses refused a b x → IsOk x → refused a b (units_or_none x ++ e)
part_refused {S} refused a b (Ok us) e h ok = h us e refl
part_refused {S} refused a b (Err f) e h ok = absurd cc

-- ---- rows

pub row_first : (row : ℕ) (codes : List ℕ) (rows : List (List ℕ)) → row_rest row (codes ∷ rows) ≡ row_line row
    codes ++ row_rest (row + 1) rows
unfolding joined_rows more_rows
row_first zero codes rows = refl
row_first (suc row) codes rows = rw add-one refl

pub no_row : (row : ℕ) → row_rest row [] ≡ []
unfolding joined_rows more_rows
no_row zero = refl
no_row (suc row) = refl

pub row_on : (rows : List (List ℕ)) (row : ℕ) → row < length rows → row_rest row (drop row rows) ≡ row_line row
    (get_or rows row []) ++ row_rest (row + 1) (drop (row + 1) rows)
row_on rows row h = rw (drop-cons rows row [], ← add-one) (row_first row (get_or rows row []) (drop (row + 1) rows))

pub rows_end : (rows : List (List ℕ)) (row : ℕ) → length rows ≤ row → row_rest row (drop row rows) ≡ []
rows_end rows row h = rw (drop_all row rows h) (no_row row)

pub row_some : {S : Type 0} (gave : S → S → List Unit → Type 0) (a b : S) (rows : List (List ℕ)) (row : ℕ)
    → row < length rows → gave a b (row_line row (get_or rows row []))
    → GivesSome gave a b (row_rest row (drop row rows)) (row_rest (row + 1) (drop (row + 1) rows))
row_some {S} gave a b rows row h gives =
    record { units = row_line row (get_or rows row []); gives = gives; is = row_on rows row h }

pub some_refused : {S : Type 0} (gave refused : S → S → List Unit → Type 0) (late : (a b c : S) (s t : List Unit)
    → gave a b s → refused b c t → refused a c (s ++ t)) (a b c : S) (x y : List Unit) → GivesSome gave a b x y
    → refused b c y → refused a c x
some_refused {S} gave refused late a b c x y h k = subst (refused a c) (sym h.is) (late a b c h.units y h.gives k)

pub row_refused : {S : Type 0} (refused : S → S → List Unit → Type 0) (a b : S) (rows : List (List ℕ)) (row : ℕ)
    → row < length rows → ((more : List Unit) → refused a b (row_line row (get_or rows row []) ++ more))
    → refused a b (row_rest row (drop row rows))
row_refused {S} refused a b rows row h k =
    subst (refused a b) (sym (row_on rows row h)) (k (row_rest (row + 1) (drop (row + 1) rows)))

pub on_or_off : {S : Type 0} (gave : S → S → List Unit → Type 0) (a b : S) (m : MemoryMap) (on : Bool)
    (x : List Unit) (rest : Rest) → (on ≡ true → GivesSome gave a b x (rest_units m rest))
    → (on ≡ false → gave a b x) → GivesSome gave a b x (rest_on m on rest)
on_or_off {S} gave a b m true x rest h k = h refl
on_or_off {S} gave a b m false x rest h k = some_all gave a b x (k refl)

pub all_rows : {S : Type 0} (gave : S → S → List Unit → Type 0) (a b : S) (x : List Unit) (m : MemoryMap)
    (r : Rectangle) (row : ℕ) → IsOk (rows_of m r) → row ≡ r.height
    → GivesSome gave a b x (row_rest row (rest_rows m r row)) → gave a b x
all_rows {S} gave a b x m r row stands end h =
    let rows = ready_rows (rows_of m r) stands in
    let size = rows_length m r rows.0 rows.1 in
    all_some gave a b x (rw (rows.2, rows_end rows.0 row (omega (arith, size, end))) at h)

pub codes_on : (e : ExtraTable) (a b : List ℕ) (us x y : List Unit) → b ≡ a ++ stored_all e us → x ≡ us ++ y
    → b ++ stored_all e y ≡ a ++ stored_all e x
codes_on e a b us x y h is =
    rw (is, stored_all-append e us y, ← append_assoc a (stored_all e us) (stored_all e y), ← h) refl
