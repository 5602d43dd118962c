-- Parts of a text only divide what a step passes, and what comes from the world determines a log.
use Rattle.std.proofs.Common.{◌≡◌, ◌∙◌, ◌⊎◌, ◌-◌, ◌+◌, inl, inr, ℕ, zero, suc, Bool, true, false, List, [], ◌∷◌, ◌++◌}
use Rattle.std.proofs.Common.{append_assoc, append-nil, Option, Some, None, refl, ap, sym, arith}
use Rattle.std.specs.List.{drop-map}
use Rattle.std.specs.Prelude.{drop, take}
use Rattle.std.proofs.lemmas.List.{drop-drop, drop-take, take-map, take-take, take-append-drop}
use Rattle.std.proofs.lemmas.List.Elements.{filter_map-append}
use Rattle.zk_step.specs.Routing.{Signals, on_script}
use Rattle.zk_vm.specs.declared.stop.Stop.{Stop}
use Rattle.zk_vm.specs.declared.waiting.Waiting.{Waiting}
use Rattle.zk_vm.specs.Answers.{Answer}
use Rattle.zk_vm.specs.Log.{Entry, IsPrefix, Move, OneLog, PartsJoin, PartsOnlyDivide, Passed, address_told, answer_in}
use Rattle.zk_vm.specs.Log.{answers_in, goes_by, is_silent, moved, moved_by, part_shown, parted, parted_to, parts_by}
use Rattle.zk_vm.specs.Log.{passed, stepped, stepped_to, text_left, text_shown, told}
use Rattle.zk_vm.specs.Log.Entry.{Shown, Stopped}
use Rattle.zk_vm.specs.Log.Move.{Gets, Goes, Part}
use Rattle.zk_vm.specs.Sessions.{Session}
use Rattle.zk_vm.specs.Step.{State, Verdict, state_after, step, verdict_of}
use Rattle.zk_vm.specs.Step.Verdict.{GoesOn, StopsBy, WaitsFor}
use Rattle.zk_vm.proofs.Logs.{move_is, plain_agree, plain_move, plainly, prefix_on, says_step, says_told}

-- ---- a text

told_divided : (n : ℕ) (t : Signals) → told (take n t) ++ told (drop n t) ≡ told t
told_divided n t = rw (← take-map Shown n t, ← drop-map Shown n t) (take-append-drop n (told t))

-- ---- a step

-- after a part of it a step passes what is left, and leads to the same machine
record Divides (s : Session) (p : Passed) : Type 0 where
  entries : p.entries ++ (moved p.to Goes).entries ≡ (moved s Goes).entries
  to : (moved p.to Goes).to ≡ (moved s Goes).to

-- where nothing is shown
stays_divided : (s : Session) → Divides s (record { entries = []; to = s })
stays_divided s = record { entries = refl; to = refl }

-- of a step that does not stop a part is shown
shown_divided : (n : ℕ) (s : Session) (p : Passed) → p.entries ≡ address_told s.left s.state.pc
    ++ told (text_left s.left s.state) → moved s Goes ≡ p
    → moved (record s { left = Some (drop n (text_left s.left s.state)) }) Goes ≡ record p
    { entries = told (drop n (text_left s.left s.state)) }
    → Divides s (part_shown n s (text_left s.left s.state))
shown_divided n s p all is rest =
    let text = text_left s.left s.state in
    let address = address_told s.left s.state.pc in
    record {
      entries = ap (λ (q : Passed). (address ++ told (take n text)) ++ q.entries) rest
          ∙ append_assoc address (told (take n text)) (told (drop n text))
          ∙ ap (λ (l : List Entry). address ++ l) (told_divided n text)
          ∙ sym all ∙ ap (λ (q : Passed). q.entries) (sym is);
      to = ap (λ (q : Passed). q.to) rest ∙ ap (λ (q : Passed). q.to) (sym is);
    }

-- so is one of a step that stops
stop_divided : (n : ℕ) (s : Session) (stop : Stop) (t : State) → moved s Goes ≡ stepped_to s (StopsBy stop) t
    (text_left s.left s.state)
    → moved (record s { left = Some (drop n (text_left s.left s.state)) }) Goes ≡ stepped_to
    (record s { left = Some (drop n (text_left s.left s.state)) }) (StopsBy stop) t
    (drop n (text_left s.left s.state)) → Divides s (part_shown n s (text_left s.left s.state))
stop_divided n s stop t is rest =
    let text = text_left s.left s.state in
    let address = address_told s.left s.state.pc in
    let end = Stopped stop ∷ [] in
    record {
      entries = ap (λ (q : Passed). (address ++ told (take n text)) ++ q.entries) rest
          ∙ append_assoc address (told (take n text)) (told (drop n text) ++ end)
          ∙ ap (λ (l : List Entry). address ++ l)
          (sym (append_assoc (told (take n text)) (told (drop n text)) end)
          ∙ ap (λ (l : List Entry). l ++ end) (told_divided n text)) ∙ ap (λ (q : Passed). q.entries) (sym is);
      to = ap (λ (q : Passed). q.to) rest ∙ ap (λ (q : Passed). q.to) (sym is);
    }

part_divided : (silent : Bool) (n : ℕ) (s : Session) (v : Verdict) (t : State)
    → moved s Goes ≡ stepped_to s v t (text_left s.left s.state)
    → ((left : Option Signals) → moved (record s { left = left }) Goes ≡ stepped_to (record s { left = left }) v t
    (text_left left s.state)) → Divides s (parted_to silent n s v t (text_left s.left s.state))
part_divided true n s GoesOn t is also =
    shown_divided n s (stepped_to s GoesOn t (text_left s.left s.state)) refl is
    (also (Some (drop n (text_left s.left s.state))))
part_divided true n s (WaitsFor w) t is also =
    shown_divided n s (stepped_to s (WaitsFor w) t (text_left s.left s.state)) refl is
    (also (Some (drop n (text_left s.left s.state))))
part_divided true n s (StopsBy stop) t is also =
    stop_divided n s stop t is (also (Some (drop n (text_left s.left s.state))))
part_divided false n s GoesOn t is also =
    shown_divided n s (stepped_to s GoesOn t (text_left s.left s.state)) refl is
    (also (Some (drop n (text_left s.left s.state))))
part_divided false n s (WaitsFor w) t is also =
    shown_divided n s (stepped_to s (WaitsFor w) t (text_left s.left s.state)) refl is
    (also (Some (drop n (text_left s.left s.state))))
part_divided false n s (StopsBy stop) t is also =
    let p = stepped_to s (StopsBy stop) t (text_left s.left s.state) in
    record {
      entries = append-nil p.entries ∙ ap (λ (q : Passed). q.entries) (sym is);
      to = ap (λ (q : Passed). q.to) (sym is);
    }

count_divided : (n k : ℕ) (s : Session) → s.stopped ≡ None → s.waiting ≡ None → s.state.due ≡ []
    → s.limits.steps - s.state.steps ≡ k → Divides s (parted n k s)
count_divided n zero s runs free silent count = let is = move_is zero s runs free silent count in
    record { entries = ap (λ (p : Passed). p.entries) (sym is); to = ap (λ (p : Passed). p.to) (sym is) }
count_divided n (suc k) s runs free silent count =
    part_divided (is_silent (text_shown (step s.state))) n s (verdict_of s.state (step s.state))
    (state_after s.state (step s.state)) (move_is (suc k) s runs free silent count)
    (λ left. move_is (suc k) (record s { left = left }) runs free silent count)

due_divided : (n : ℕ) (due : List ℕ) (s : Session) → s.stopped ≡ None → s.waiting ≡ None → s.state.due ≡ due
    → Divides s (parts_by n due s)
due_divided n [] s runs free silent = count_divided n (s.limits.steps - s.state.steps) s runs free silent refl
due_divided n (c ∷ cs) s runs free silent = stays_divided s

by_divided : (n : ℕ) (x : Option Stop) (y : Option Waiting) (s : Session) → s.stopped ≡ x → s.waiting ≡ y
    → Divides s (moved_by x y s (Part n))
by_divided n None None s runs free = due_divided n s.state.due s runs free refl
by_divided n None (Some w) s runs waits = stays_divided s
by_divided n (Some stop) y s stopped waits = stays_divided s

divided : (s : Session) (n : ℕ) → Divides s (moved s (Part n))
divided s n = by_divided n s.stopped s.waiting s refl refl

pub parts_only_divide : PartsOnlyDivide
parts_only_divide s n = let h = divided s n in (h.entries, h.to)

-- ---- two parts

firsts_joined : (n k : ℕ) (t : Signals) → told (take n t) ++ told (take k (drop n t)) ≡ told
    (take (n + k) t)
firsts_joined n k t =
    rw (take-take n (n + k) t (omega arith), drop-take n k t) at (told_divided n (take (n + k) t))

later_joined : (n k : ℕ) (t : Signals) → drop k (drop n t) ≡ drop (n + k) t
later_joined n k t = rw (drop-drop k n t) refl

part_is : (n k : ℕ) (s : Session) → s.stopped ≡ None → s.waiting ≡ None → s.state.due ≡ []
    → s.limits.steps - s.state.steps ≡ k → moved s (Part n) ≡ parted n k s
part_is n k s runs free silent count = rw (runs, free, silent, count) refl

-- after a part of a step another leads to where both lead as one
record Joins (k : ℕ) (p q : Passed) : Type 0 where
  entries : p.entries ++ (moved p.to (Part k)).entries ≡ q.entries
  to : (moved p.to (Part k)).to ≡ q.to

stays_joined : (k : ℕ) (s : Session) (q : Passed) → moved s (Part k) ≡ q → Joins k (record { entries = []; to = s }) q
stays_joined k s q is = record { entries = ap (λ (p : Passed). p.entries) is; to = ap (λ (p : Passed). p.to) is }

shown_joined : (n k : ℕ) (s : Session) (text : Signals) → moved (part_shown n s text).to (Part k) ≡ part_shown k
    (part_shown n s text).to (drop n text) → Joins k (part_shown n s text) (part_shown (n + k) s text)
shown_joined n k s text is =
    let address = address_told s.left s.state.pc in
    record {
      entries = ap (λ (q : Passed). (address ++ told (take n text)) ++ q.entries) is
          ∙ append_assoc address (told (take n text)) (told (take k (drop n text)))
          ∙ ap (λ (l : List Entry). address ++ l) (firsts_joined n k text);
      to = ap (λ (q : Passed). q.to) is ∙ ap (λ (t : Signals). let x : Session = record s { left = Some t } in x)
          (later_joined n k text);
    }

parted_joined : (silent : Bool) (n k : ℕ) (s : Session) (v : Verdict) (t : State) (text : Signals)
    → ((left : Signals) → moved (record s { left = Some left }) (Part k) ≡ parted_to silent k
    (record s { left = Some left }) v t left) → Joins k (parted_to silent n s v t text)
    (parted_to silent (n + k) s v t text)
parted_joined true n k s v t text also = shown_joined n k s text (also (drop n text))
parted_joined false n k s GoesOn t text also = shown_joined n k s text (also (drop n text))
parted_joined false n k s (WaitsFor w) t text also = shown_joined n k s text (also (drop n text))
parted_joined false n k s (StopsBy stop) t text also =
    record { entries = append-nil (stepped_to s (StopsBy stop) t text).entries; to = refl }

count_joined : (n k i : ℕ) (s : Session) → s.stopped ≡ None → s.waiting ≡ None → s.state.due ≡ []
    → s.limits.steps - s.state.steps ≡ i → Joins k (parted n i s) (parted (n + k) i s)
count_joined n k zero s runs free silent count = record { entries = refl; to = refl }
count_joined n k (suc i) s runs free silent count =
    parted_joined (is_silent (text_shown (step s.state))) n k s (verdict_of s.state (step s.state))
    (state_after s.state (step s.state)) (text_left s.left s.state)
    (λ left. part_is k (suc i) (record s { left = Some left }) runs free silent count)

due_joined : (n k : ℕ) (due : List ℕ) (s : Session) → s.stopped ≡ None → s.waiting ≡ None → s.state.due ≡ due
    → Joins k (parts_by n due s) (parts_by (n + k) due s)
due_joined n k [] s runs free silent = count_joined n k (s.limits.steps - s.state.steps) s runs free silent refl
due_joined n k (c ∷ cs) s runs free silent =
    stays_joined k s (record { entries = []; to = s }) (rw (runs, free, silent) refl)

by_joined : (n k : ℕ) (x : Option Stop) (y : Option Waiting) (s : Session) → s.stopped ≡ x → s.waiting ≡ y
    → Joins k (moved_by x y s (Part n)) (moved_by x y s (Part (n + k)))
by_joined n k None None s runs free = due_joined n k s.state.due s runs free refl
by_joined n k None (Some w) s runs waits = stays_joined k s (record { entries = []; to = s }) (rw (runs, waits) refl)
by_joined n k (Some stop) y s stopped waits = stays_joined k s (record { entries = []; to = s }) (rw stopped refl)

pub parts_join : PartsJoin
parts_join s n k = let h = by_joined n k s.stopped s.waiting s refl refl in (h.entries, h.to)

-- ---- moves without parts

-- a log is a first part of what passes at moves without parts, and gets the same from the world
record IsCut (s : Session) (l : List Entry) : Type 0 where
  moves : List (Option Answer)
  rest : List Entry
  is : plainly moves s ≡ l ++ rest
  alone : answers_in rest ≡ []

-- the first of them is that the machine goes on
record GoesFirst (s : Session) (l : List Entry) : Type 0 where
  moves : List (Option Answer)
  rest : List Entry
  is : (moved s Goes).entries ++ plainly moves (moved s Goes).to ≡ l ++ rest
  alone : answers_in rest ≡ []

-- a machine that goes on gets nothing from the world
steps_alone : (k : ℕ) (s : Session) → answers_in (stepped k s).entries ≡ []
steps_alone zero s = refl
steps_alone (suc k) s =
    (says_step s (verdict_of s.state (step s.state)) (state_after s.state (step s.state))
    (text_left s.left s.state)).alone

due_alone : (due : List ℕ) (s : Session) → answers_in (goes_by due s).entries ≡ []
due_alone [] s = steps_alone (s.limits.steps - s.state.steps) s
due_alone (c ∷ cs) s = (says_told (on_script (c ∷ cs))).alone

by_alone : (x : Option Stop) (y : Option Waiting) (s : Session) → answers_in (moved_by x y s Goes).entries ≡ []
by_alone None None s = due_alone s.state.due s
by_alone None (Some w) s = refl
by_alone (Some stop) y s = refl

-- one that does not go on stays
goes_stay : (s : Session) (l : List Entry) → moved s Goes ≡ record { entries = []; to = s } → IsCut s l → GoesFirst s l
goes_stay s l e c =
    record {
      moves = c.moves;
      rest = c.rest;
      is = ap (λ (p : Passed). p.entries ++ plainly c.moves p.to) e ∙ c.is;
      alone = c.alone;
    }

-- one that goes on gets no answer before
goes_next : (s : Session) (l rest : List Entry)
    → ((a : Answer) → moved s (Gets a) ≡ record { entries = []; to = s }) → answers_in rest ≡ []
    → (ms : List (Option Answer)) → plainly ms s ≡ l ++ rest → GoesFirst s l
unfolding passed
goes_next s [] rest none alone [] e = record {
  moves = [];
  rest = (moved s Goes).entries ++ [];
  is = refl;
  alone = ap answers_in (append-nil (moved s Goes).entries) ∙ by_alone s.stopped s.waiting s;
}
goes_next s (x ∷ l) rest none alone [] e = absurd cc
goes_next s l rest none alone (None ∷ ms) e = record { moves = ms; rest = rest; is = e; alone = alone }
goes_next s l rest none alone (Some a ∷ ms) e =
    goes_next s l rest none alone ms (ap (λ (p : Passed). p.entries ++ plainly ms p.to) (sym (none a)) ∙ e)

goes_first : (x : Option Stop) (y : Option Waiting) (s : Session) (l : List Entry) → s.stopped ≡ x → s.waiting ≡ y
    → IsCut s l → GoesFirst s l
goes_first None None s l runs free c = goes_next s l c.rest (λ a. rw (runs, free) refl) c.alone c.moves c.is
goes_first None (Some w) s l runs waits c = goes_stay s l (rw (runs, waits) refl) c
goes_first (Some stop) y s l stopped waits c = goes_stay s l (rw stopped refl) c

moves_cut : (m : Option Answer) (s : Session) (l : List Entry) → IsCut (moved s (plain_move m)).to l
    → IsCut s ((moved s (plain_move m)).entries ++ l)
unfolding passed
moves_cut m s l c = record {
  moves = m ∷ c.moves;
  rest = c.rest;
  is = ap (λ (x : List Entry). (moved s (plain_move m)).entries ++ x) c.is
      ∙ sym (append_assoc (moved s (plain_move m)).entries l c.rest);
  alone = c.alone;
}

part_cut : (n : ℕ) (s : Session) (l : List Entry) → IsCut (moved s (Part n)).to l
    → IsCut s ((moved s (Part n)).entries ++ l)
unfolding passed
part_cut n s l c =
    let p = moved s (Part n) in
    let h = divided s n in
    let g = goes_first p.to.stopped p.to.waiting p.to l refl refl c in
    record {
      moves = None ∷ g.moves;
      rest = g.rest;
      is = ap (λ (x : List Entry). x ++ plainly g.moves (moved s Goes).to) (sym h.entries)
          ∙ append_assoc p.entries (moved p.to Goes).entries (plainly g.moves (moved s Goes).to)
          ∙ ap (λ (t : Session). p.entries ++ ((moved p.to Goes).entries ++ plainly g.moves t)) (sym h.to)
          ∙ ap (λ (x : List Entry). p.entries ++ x) g.is ∙ sym (append_assoc p.entries l g.rest);
      alone = g.alone;
    }

cut : (ms : List Move) (s : Session) → IsCut s (passed ms s)
unfolding passed
cut [] s = record { moves = []; rest = []; is = refl; alone = refl }
cut (Goes ∷ ms) s = moves_cut None s (passed ms (moved s Goes).to) (cut ms (moved s Goes).to)
cut (Gets a ∷ ms) s = moves_cut (Some a) s (passed ms (moved s (Gets a)).to) (cut ms (moved s (Gets a)).to)
cut (Part n ∷ ms) s = part_cut n s (passed ms (moved s (Part n)).to) (cut ms (moved s (Part n)).to)

-- ---- one log

-- two first parts of one list
first_parts : (l m p q : List Entry) → l ++ p ≡ m ++ q → IsPrefix l m ⊎ IsPrefix m l
first_parts [] m p q e = inl (record { rest = m; whole = refl })
first_parts (x ∷ l) [] p q e = inr (record { rest = x ∷ l; whole = refl })
first_parts (x ∷ l) (y ∷ m) p q e =
    let same : y ≡ x = cc in
    let more : l ++ p ≡ m ++ q = cc in
    rw same (prefix_on x l m (first_parts l m p q more))

cut_answers : (s : Session) (l : List Entry) (c : IsCut s l) → answers_in (plainly c.moves s) ≡ answers_in l
cut_answers s l c = rw (c.is, filter_map-append answer_in l c.rest, c.alone) (append-nil (answers_in l))

cut_parts : (l m p q x y : List Entry) → x ≡ l ++ p → y ≡ m ++ q → IsPrefix x y ⊎ IsPrefix y x
    → IsPrefix l m ⊎ IsPrefix m l
cut_parts l m p q x y a b (inl h) =
    first_parts l m (p ++ h.rest) q (sym (append_assoc l p h.rest) ∙ ap (λ (z : List Entry). z ++ h.rest) (sym a)
    ∙ sym h.whole ∙ b)
cut_parts l m p q x y a b (inr h) =
    first_parts l m p (q ++ h.rest) (sym a ∙ h.whole ∙ ap (λ (z : List Entry). z ++ h.rest) b ∙ append_assoc m q h.rest)

pub one_log : OneLog
one_log s t u l m a b e =
    let c = cut a.moves s in
    let d = cut b.moves s in
    rw (a.is, b.is) (cut_parts (passed a.moves s) (passed b.moves s) c.rest d.rest (plainly c.moves s)
    (plainly d.moves s) c.is d.is
    (plain_agree c.moves d.moves s (cut_answers s (passed a.moves s) c ∙ (rw (a.is, b.is) at e)
    ∙ sym (cut_answers s (passed b.moves s) d))))
