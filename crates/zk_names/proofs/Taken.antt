-- Routines that are taken, with their sequence points and their local variables.
use Rattle.std.proofs.Common.{◌≡◌, ◌∙◌, ℕ, ◌+◌, ◌-◌, ◌<◌, ◌≤◌, ◌++◌, Bool, true, false, List, [], ◌∷◌, codes, cond}
use Rattle.std.proofs.Common.{append-nil, append_assoc, length, length-append, take, drop, get_or, map, refl, ap, sym}
use Rattle.std.proofs.Common.{subst, arith}
use Rattle.std.proofs.Math.Seq.{take-append_seam}
use Rattle.std.proofs.lemmas.List.{drop_all, get_or_default}
use Rattle.zk_names.specs.Documents.{Element, element_of}
use Rattle.zk_names.specs.Nodes.{Node, children, is_child, node_of, nodes, number_in}
use Rattle.zk_names.specs.Said.{GoesOn, IsTaken, SayEach, SaysHead, SaysLocal, SaysPoint, SaysRoutine, is_zero, kept}
use Rattle.zk_names.specs.Said.{routine_nodes}
use Rattle.zk_names.specs.declared.document.Element.{Element as Found}
use Rattle.zk_names.specs.declared.names.Local.{Local}
use Rattle.zk_names.specs.declared.names.Point.{Point}
use Rattle.zk_names.specs.declared.names.Routine.{Routine}
use Rattle.zk_names.specs.declared.routines.Routines.{Routines}
use Rattle.zk_names.proofs.Walks.{blank, found, passed}

-- a routine with its parts
abbrev pub with_parts : Routine → ℕ → ℕ → ℕ → ℕ → Routine
with_parts h fp p fl l =
    record {
      name = h.name;
      address = h.address;
      length = h.length;
      place = h.place;
      first_point = fp;
      points = p;
      first_local = fl;
      locals = l;
    }

pub taken_is : (n : Node) (before after : Routines) (h : Routine) (fp p fl l : ℕ) → SaysHead n h
    → after.routines.items ≡ before.routines.items ++ (with_parts h fp p fl l ∷ [])
    → GoesOn SaysPoint (children (codes "sequence-point") n) before.points.items after.points.items
    → GoesOn SaysLocal (children (codes "local-variable") n) before.locals.items after.locals.items
    → fp ≡ length before.points.items → p ≡ length after.points.items - fp
    → fl ≡ length before.locals.items → l ≡ length after.locals.items - fl → IsTaken n before after
taken_is n before after h fp p fl l head whole ps ls hfp hp hfl hl =
    record {
      routine = with_parts h fp p fl l;
      head = record { name = head.name; address = head.address; length = head.length; place = head.place };
      routines = whole;
      points = ps;
      first_point = hfp;
      point_count = omega (arith, ap length ps.whole, length-append before.points.items ps.more);
      locals = ls;
      first_local = hfl;
      local_count = omega (arith, ap length ls.whole, length-append before.locals.items ls.more);
    }

-- as far as i, routines are those that elements say, whatever sequence points and local variables come behind theirs
pub record Keeps (es : List Found) (i : ℕ) (r : Routines) : Type 0 where
  pub on : (ps : List Point) (ls : List Local) (more : List Routine)
      → SayEach (SaysRoutine (r.points.items ++ ps) (r.locals.items ++ ls)) (routine_nodes (map element_of (drop i es)))
      more
      → SayEach (SaysRoutine (r.points.items ++ ps) (r.locals.items ++ ls)) (routine_nodes (map element_of es))
      (r.routines.items ++ more)

pub keeps_none : (es : List Found) (r : Routines) → r.routines.items ≡ [] → Keeps es 0 r
keeps_none es r h =
    record {
      on = λ ps ls more s.
          subst (λ (rs : List Routine).
          SayEach (SaysRoutine (r.points.items ++ ps) (r.locals.items ++ ls)) (routine_nodes (map element_of es))
          (rs ++ more)) (sym h) s;
    }

abbrev pub is_routine : Element → Bool
is_routine = is_child 0 (codes "routine")

keeps_by : (es : List Found) (i : ℕ) (r : Routines) → Keeps es i r
    → routine_nodes (map element_of (drop i es)) ≡ routine_nodes (map element_of (drop (i + 1) es))
    → Keeps es (i + 1) r
keeps_by es i r k e =
    record {
      on = λ ps ls more s.
          k.on ps ls more (subst (λ (ns : List Node).
          SayEach (SaysRoutine (r.points.items ++ ps) (r.locals.items ++ ls)) ns more) (sym e) s);
    }

-- an element that is no routine
pub keeps_skips : {es : List Found} {i : ℕ} {r : Routines} → Keeps es i r → i < length es
    → is_routine (element_of (get_or es i blank)) ≡ false → Keeps es (i + 1) r
keeps_skips {es} {i} {r} k l h = keeps_by es i r k (ap kept (passed is_routine es i blank l h))

-- the routines from one that is found on
routine_found : (es : List Found) (i : ℕ) (x : Found) (n : Node) (b : Bool) → i < length es
    → is_routine (element_of (get_or es i blank)) ≡ true → x ≡ get_or es i x
    → n ≡ node_of (element_of x) (map element_of (drop (i + 1) es))
    → is_zero (number_in (codes "address") n) ≡ b
    → routine_nodes (map element_of (drop i es))
    ≡ cond b (routine_nodes (map element_of (drop (i + 1) es))) (n ∷ routine_nodes (map element_of (drop (i + 1) es)))
routine_found es i x n b l h e m z =
    let same : x ≡ get_or es i blank = e ∙ get_or_default es i x blank l in
    let is : n ≡ node_of (element_of (get_or es i blank)) (map element_of (drop (i + 1) es)) =
    m ∙ ap (λ y. node_of (element_of y) (map element_of (drop (i + 1) es))) same in
    ap kept (found is_routine es i blank l h
    ∙ ap (λ k. k ∷ nodes is_routine (map element_of (drop (i + 1) es))) (sym is))
    ∙ ap (λ c. cond c (routine_nodes (map element_of (drop (i + 1) es)))
    (n ∷ routine_nodes (map element_of (drop (i + 1) es)))) z

-- a routine that is not in the story
pub keeps_leaves : {es : List Found} {i : ℕ} {r : Routines} (x : Found) (n : Node) → Keeps es i r → i < length es
    → is_routine (element_of (get_or es i blank)) ≡ true → x ≡ get_or es i x
    → n ≡ node_of (element_of x) (map element_of (drop (i + 1) es))
    → is_zero (number_in (codes "address") n) ≡ true → Keeps es (i + 1) r
keeps_leaves {es} {i} {r} x n k l h e m z = keeps_by es i r k (routine_found es i x n true l h e m z)

drop_seam : {T : Type 0} (xs ys : List T) → drop (length xs) (xs ++ ys) ≡ ys
drop_seam [] ys = refl
drop_seam (x ∷ xs) ys = drop_seam xs ys

part_is : {T : Type 0} (a b c : List T) (f n : ℕ) → f ≡ length a → n ≡ length b
    → take n (drop f (a ++ (b ++ c))) ≡ b
part_is {T} a b c f n hf hn =
    ap (λ k. take k (drop f (a ++ (b ++ c)))) hn ∙ ap (λ k. take (length b) (drop k (a ++ (b ++ c)))) hf
    ∙ ap (take (length b)) (drop_seam a (b ++ c)) ∙ take-append_seam b c

-- a routine that is taken is said with whatever comes behind its parts
said_with : (n : Node) (before after : Routines) (t : IsTaken n before after) (ps : List Point) (ls : List Local)
    → SaysRoutine (before.points.items ++ (t.points.more ++ ps)) (before.locals.items ++ (t.locals.more ++ ls)) n
    t.routine
said_with n before after t ps ls =
    record {
      head = t.head;
      points = subst (λ (l : List Point). SayEach SaysPoint (children (codes "sequence-point") n) l)
          (sym (part_is before.points.items t.points.more ps t.routine.first_point t.routine.points t.first_point
          t.point_count)) t.points.said;
      locals = subst (λ (l : List Local). SayEach SaysLocal (children (codes "local-variable") n) l)
          (sym (part_is before.locals.items t.locals.more ls t.routine.first_local t.routine.locals t.first_local
          t.local_count)) t.locals.said;
    }

-- a routine that is taken
pub keeps_takes : {es : List Found} {i : ℕ} {r : Routines} (next : Routines) (x : Found) (n : Node) → Keeps es i r
    → i < length es → is_routine (element_of (get_or es i blank)) ≡ true → x ≡ get_or es i x
    → n ≡ node_of (element_of x) (map element_of (drop (i + 1) es))
    → is_zero (number_in (codes "address") n) ≡ false → IsTaken n r next → Keeps es (i + 1) next
keeps_takes {es} {i} {r} next x n k l h e m z t =
    record {
      on = λ ps ls more s.
          let points : next.points.items ++ ps ≡ r.points.items ++ (t.points.more ++ ps) =
          ap (λ v. v ++ ps) t.points.whole ∙ append_assoc r.points.items t.points.more ps in
          let locals : next.locals.items ++ ls ≡ r.locals.items ++ (t.locals.more ++ ls) =
          ap (λ v. v ++ ls) t.locals.whole ∙ append_assoc r.locals.items t.locals.more ls in
          let rest = subst (λ (v : List Local). SayEach (SaysRoutine (r.points.items ++ (t.points.more ++ ps)) v)
          (routine_nodes (map element_of (drop (i + 1) es))) more) locals
          (subst (λ (v : List Point). SayEach (SaysRoutine v (next.locals.items ++ ls))
          (routine_nodes (map element_of (drop (i + 1) es))) more) points s) in
          let all = k.on (t.points.more ++ ps) (t.locals.more ++ ls) (t.routine ∷ more)
          (subst (λ (ns : List Node). SayEach (SaysRoutine (r.points.items ++ (t.points.more ++ ps))
          (r.locals.items ++ (t.locals.more ++ ls))) ns (t.routine ∷ more))
          (sym (routine_found es i x n false l h e m z)) (said_with n r next t ps ls, rest)) in
          subst (λ (rs : List Routine). SayEach (SaysRoutine (next.points.items ++ ps) (next.locals.items ++ ls))
          (routine_nodes (map element_of es)) rs)
          (sym (ap (λ v. v ++ more) t.routines ∙ append_assoc r.routines.items (t.routine ∷ []) more))
          (subst (λ (v : List Local). SayEach (SaysRoutine (next.points.items ++ ps) v)
          (routine_nodes (map element_of es)) (r.routines.items ++ (t.routine ∷ more))) (sym locals)
          (subst (λ (v : List Point). SayEach (SaysRoutine v (r.locals.items ++ (t.locals.more ++ ls)))
          (routine_nodes (map element_of es)) (r.routines.items ++ (t.routine ∷ more))) (sym points) all));
    }

pub keeps_over : {es : List Found} {i : ℕ} {r : Routines} → Keeps es i r → length es ≤ i
    → SayEach (SaysRoutine r.points.items r.locals.items) (routine_nodes (map element_of es)) r.routines.items
keeps_over {es} {i} {r} k h =
    let end = k.on [] [] [] (subst (λ (l : List Found). SayEach (SaysRoutine (r.points.items ++ [])
    (r.locals.items ++ [])) (routine_nodes (map element_of l)) []) (sym (drop_all i es h)) tt) in
    subst (λ (v : List Routine). SayEach (SaysRoutine r.points.items r.locals.items)
    (routine_nodes (map element_of es)) v) (append-nil r.routines.items)
    (subst (λ (v : List Local). SayEach (SaysRoutine r.points.items v) (routine_nodes (map element_of es))
    (r.routines.items ++ [])) (append-nil r.locals.items)
    (subst (λ (v : List Point). SayEach (SaysRoutine v (r.locals.items ++ [])) (routine_nodes (map element_of es))
    (r.routines.items ++ [])) (append-nil r.points.items) end))
