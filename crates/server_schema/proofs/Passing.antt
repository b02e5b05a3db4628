-- How a pass over candidates goes on.
use Rattle.std.proofs.Common.{◌≡◌, ◌∙◌, ℕ, ◌+◌, ◌-◌, ◌<◌, ◌≤◌, Bool, true, false, cond, List, [], ◌∷◌, ◌++◌, take, drop, length, get_or, sym, ap, subst, append_assoc, append-nil, length-drop, arith}
use Rattle.std.proofs.lemmas.List.{map-append, take_rest, take-map, drop-map, drop-drop, drop_more, take-append-drop}
use Rattle.server_schema.specs.declared.definition.Definition.{Definition}
use Rattle.server_schema.specs.declared.taking.Candidate.{Candidate}
use Rattle.server_schema.specs.Definitions.{line_of, lines_of}
use Rattle.server_schema.specs.Growth.{is_read, Grows, AreRefused, definitions_of_all}
use Rattle.std.specs.List.{Contains}
use Rattle.server_schema.specs.Transfers.{IsOneMore}
use Rattle.server_schema.proofs.Members.{in_map}
use Rattle.server_schema.proofs.Growing.{then_grows, take_grows, more_refused}
use Rattle.server_schema.proofs.Gathering.{one_more_first, one_more_last}

abbrev defs : List Candidate → List Definition
defs cs = definitions_of_all cs

abbrev of_candidate : Candidate → Definition
of_candidate c = c.definition.now

-- lines that were put
pub put_lines : (b : Bool) (old new lines : List ℕ) (ds : List Definition) → b ≡ true → new ≡ cond b (old ++ lines) old → lines ≡ lines_of ds → new ≡ old ++ lines_of ds
put_lines b old new lines ds holds is are = is ∙ ap (λ (t : Bool). cond t (old ++ lines) old) holds ∙ ap (λ (t : List ℕ). old ++ t) are

pub some_defs : (n : ℕ) (cs : List Candidate) → defs (take n cs) ≡ take n (defs cs)
some_defs n cs = sym (take-map of_candidate n cs)

rest_is : (cs : List Candidate) (at : ℕ) → defs (take (length cs - at) (drop at cs)) ≡ defs (drop at cs)
rest_is cs at = ap defs (take_rest cs at)

-- some of the next candidates were taken
pub some_taken : (a t u : List ℕ) (all : List Definition) (left cs : List Candidate) (at n : ℕ)
    → Grows a all t (defs left ++ defs (drop at cs)) false → u ≡ t ++ lines_of (take n (defs (take (length cs - at) (drop at cs)))) → (is_read t ≡ true → is_read u ≡ true)
    → Grows a all u (defs left ++ defs (drop (at + n) cs)) false
some_taken a t u all left cs at n g is reads =
    let ds : List Definition = defs (drop at cs) in
    let took : u ≡ t ++ lines_of (take n ds) = is ∙ ap (λ (es : List Definition). t ++ lines_of (take n es)) (rest_is cs at) in
    let more : drop n ds ≡ defs (drop (at + n) cs) = drop-map of_candidate n (drop at cs) ∙ ap defs (drop-drop n at cs) in
    let step = take_grows t u (defs left) (take n ds) (drop n ds) took reads in
    let whole = subst (λ (es : List Definition). Grows t (defs left ++ es) u (defs left ++ drop n ds) false) (take-append-drop n ds) step in
    then_grows a t u all (defs left ++ ds) (defs left ++ defs (drop (at + n) cs)) false false g
    (subst (λ (es : List Definition). Grows t (defs left ++ ds) u (defs left ++ es) false) more whole)

pub within : (cs : List Candidate) (at n : ℕ) → at < length cs → n ≤ length (take (length cs - at) (drop at cs)) → at + n ≤ length cs
within cs at n lt le =
    let rest : length (take (length cs - at) (drop at cs)) ≡ length (drop at cs) = ap length (take_rest cs at) in
    let long : length (drop at cs) ≡ length cs - at = length-drop at cs in
    omega (arith, lt, le, rest, long)

-- none was
pub none_taken : (t u : List ℕ) (ds : List Definition) (n : ℕ) → n ≡ 0 → u ≡ t ++ lines_of (take n ds) → u ≡ t
none_taken t u ds n none is = is ∙ ap (λ (k : ℕ). t ++ lines_of (take k ds)) none ∙ append-nil t

-- the next candidate goes to those that are left
pub moved : (left cs : List Candidate) (at : ℕ) (x y : Candidate) → at < length cs → x ≡ get_or cs at x → y.definition.now ≡ x.definition.now
    → defs (left ++ y ∷ []) ++ defs (drop (at + 1) cs) ≡ defs left ++ defs (drop at cs)
moved left cs at x y lt is same =
    let next : drop at cs ≡ x ∷ drop (at + 1) cs = drop_more cs at x lt ∙ ap (λ (z : Candidate). z ∷ drop (at + 1) cs) (sym is) in
    ap (λ (ds : List Definition). ds ++ defs (drop (at + 1) cs)) (map-append of_candidate left (y ∷ []))
    ∙ append_assoc (defs left) (y.definition.now ∷ []) (defs (drop (at + 1) cs))
    ∙ ap (λ (d : Definition). defs left ++ d ∷ defs (drop (at + 1) cs)) same
    ∙ ap (λ (zs : List Candidate). defs left ++ defs zs) (sym next)

pub first_refused : (t : List ℕ) (cs : List Candidate) (at : ℕ) (x : Candidate) → at < length cs → x ≡ get_or cs at x
    → is_read (t ++ lines_of (take 1 (defs (take (length cs - at) (drop at cs))))) ≡ false → is_read (t ++ line_of x.definition.now) ≡ false
first_refused t cs at x lt is refused =
    let next : drop at cs ≡ x ∷ drop (at + 1) cs = drop_more cs at x lt ∙ ap (λ (z : Candidate). z ∷ drop (at + 1) cs) (sym is) in
    let one : lines_of (take 1 (defs (take (length cs - at) (drop at cs)))) ≡ line_of x.definition.now =
    ap (λ (ds : List Definition). lines_of (take 1 ds)) (rest_is cs at) ∙ ap (λ (zs : List Candidate). lines_of (take 1 (defs zs))) next ∙ append-nil (line_of x.definition.now) in
    ap (λ (l : List ℕ). is_read (t ++ l)) (sym one) ∙ refused

pub pushed_refused : (t : List ℕ) (left : List Candidate) (x : Candidate) → AreRefused t (defs left) → is_read (t ++ line_of x.definition.now) ≡ false → AreRefused t (defs (left ++ x ∷ []))
pushed_refused t left x refused this =
    subst (AreRefused t) (sym (map-append of_candidate left (x ∷ []))) (more_refused t (defs left) x.definition.now refused this)

pub in_defs : (cs : List Candidate) (at : ℕ) (x : Candidate) → at < length cs → x ≡ get_or cs at x → Contains (defs cs) x.definition.now
in_defs cs at x lt is = in_map of_candidate x cs (at, lt, sym is)

pub types_more : (ts cs : List Candidate) (x : Candidate) → IsOneMore (defs ts ++ defs cs) x.definition.now (defs (ts ++ x ∷ []) ++ defs cs)
types_more ts cs x = subst (λ (ds : List Definition). IsOneMore (defs ts ++ defs cs) x.definition.now (ds ++ defs cs)) (sym (map-append of_candidate ts (x ∷ []))) (one_more_first (defs ts) (defs cs) x.definition.now)

pub classes_more : (ts cs : List Candidate) (x : Candidate) → IsOneMore (defs ts ++ defs cs) x.definition.now (defs ts ++ defs (cs ++ x ∷ []))
classes_more ts cs x = subst (λ (ds : List Definition). IsOneMore (defs ts ++ defs cs) x.definition.now (defs ts ++ ds)) (sym (map-append of_candidate cs (x ∷ []))) (one_more_last (defs ts) (defs cs) x.definition.now)

pub all_defs : (ts cs : List Candidate) → defs (ts ++ cs) ≡ defs ts ++ defs cs
all_defs ts cs = map-append of_candidate ts cs
