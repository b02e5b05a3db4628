-- The first flaw of a block's values.
use Rattle.std.proofs.Common.{◌≡◌, ℕ, suc, Bool, true, false, cond, not, List, [], ◌∷◌, ◌++◌, length, take, Some, Result, Ok, Err, refl, sym, ap, subst, ◌∙◌, arith}
use Rattle.std.specs.List.{slice_get}
use Rattle.std.specs.FinMap as finite
use Rattle.std.proofs.lemmas.List.{append-nil, append_assoc, length_push}
use Rattle.base.specs.Answers.{◌>>=◌, through}
use Rattle.ldif.specs.declared.record.Mod.{Mod}
use Rattle.ldif.specs.declared.record.Mode.{Mode}
use Rattle.ldif.specs.declared.record.Op.{Op}
use Rattle.ldif.specs.declared.record.Op.TheVariants as ops
use Rattle.ldif.specs.declared.record.Record.{Record}
use Rattle.values.specs.Types.{type_of}
use Rattle.schema.specs.Conf.{Conf}
use Rattle.schema.specs.Rdns.{TypedRdn}
use Rattle.schema.specs.declared.code.Code.{Code}
use Rattle.schema.specs.declared.code.Code.TheVariants.{InvalidAttributeSyntax, AttributeOrValueExists, NoSuchAttribute}
use Rattle.schema.specs.Values.{is_valid_at}
use Rattle.schema.specs.FirstFlaws.{Not}
use Rattle.entries.specs.Entries.{EntryContent, values_of, has_equal}
use Rattle.entries.specs.Modifies.{append_value, remove_value, without_value}
use Rattle.tree.specs.Directories.{Entries}
use Rattle.reasons.specs.NameFlaws.{HasPlace}
use Rattle.reasons.specs.BlockFlaws.{ValueFlaw, BadSyntax, EqualValue, NoValue, IsValue, HasValueFlaw, values_with}
use Rattle.reasons.specs.Asked.{name_of_record, blocks_of_record}
use Rattle.reasons.specs.Flaws.{Flaw, Value, HasFlaw, flaw_code, value_checks}
use Rattle.reasons.proofs.Elements.{off, on, only_some}
use Rattle.reasons.proofs.Answering.{Answers, check, passed, weaker}
use Rattle.reasons.proofs.Lines.{get_seam, take_seam}
use Rattle.reasons.proofs.Places.{its_path, before_block, is_block, of_block}
use Rattle.reasons.proofs.Values.{one_goes, none_goes}

-- the values of a block, from the attributes before it
module _ (conf : Conf) (mode : Mode) (d : Entries) (r : Record) (rdns : List TypedRdn) (here : HasPlace conf (name_of_record r) rdns)
    (e : EntryContent) (found : finite.get d (its_path conf d r rdns here) ≡ Some e) (b : ℕ) (m : Mod) (block : slice_get (blocks_of_record r) b ≡ Some m)
    (t : ℕ) (known : type_of conf.types m.attr ≡ Some t) where
  abbrev pub old : List (List ℕ)
  old = values_of (before_block conf d r rdns here e found b) t

  -- the values there behind these of the block
  abbrev pub by_then : List (List ℕ) → List (List ℕ)
  by_then earlier = values_with conf.types t m.op old earlier

  module _ (i : ℕ) (v : List ℕ) (earlier : List (List ℕ)) (at : slice_get m.values i ≡ Some v) (front : take i m.values ≡ earlier) where
    is_value : IsValue conf.types (before_block conf d r rdns here e found b) m i t v (by_then earlier)
    is_value = record { value = at; type_id = known; by_then = ap by_then (sym front) }

    abbrev Said : Type 1
    Said = ℕ → List ℕ → List (List ℕ) → Type 0

    -- what is so of the value with this index is so of this one
    of_value : (Q : Said) (u : ℕ) (w : List ℕ) (there : List (List ℕ)) → IsValue conf.types (before_block conf d r rdns here e found b) m i u w there → Q u w there → Q t v (by_then earlier)
    of_value Q u w there is h =
        let type_is : u ≡ t = only_some (type_of conf.types m.attr) u t is.type_id known in
        let value_is : w ≡ v = only_some (slice_get m.values i) w v is.value at in
        let there_is : there ≡ by_then earlier =
        is.by_then ∙ ap (λ (s : ℕ). values_with conf.types s m.op (values_of (before_block conf d r rdns here e found b) s) (take i m.values)) type_is ∙ ap by_then front in
        subst (Q t v) there_is (subst (λ (z : List ℕ). Q t z there) value_is (subst (λ (s : ℕ). Q s w there) type_is h))

    abbrev its : ValueFlaw → Type 0
    its f = HasFlaw conf mode d r (Value b i f)

    of_its : (f : ValueFlaw) → its f → HasValueFlaw conf.types (before_block conf d r rdns here e found b) m i f
    of_its f h = of_block conf d r rdns here e found b m block (λ n before. HasValueFlaw conf.types before n i f) h.0 h.1 h.2 h.3

    invalid : is_valid_at conf.types t v ≡ false → its BadSyntax
    invalid h = (m, before_block conf d r rdns here e found b, is_block conf d r rdns here e found b m block, (t, v, by_then earlier, is_value, h))

    is_invalid : its BadSyntax → is_valid_at conf.types t v ≡ false
    is_invalid h = let k = of_its BadSyntax h in of_value (λ u w there. is_valid_at conf.types u w ≡ false) k.0 k.1 k.2 k.3 k.4

    equal : Not (m.op ≡ ops.Delete) → has_equal conf.types t v (by_then earlier) ≡ true → its EqualValue
    equal op h = (m, before_block conf d r rdns here e found b, is_block conf d r rdns here e found b m block, (t, v, by_then earlier, is_value, op, h))

    is_equal : its EqualValue → has_equal conf.types t v (by_then earlier) ≡ true
    is_equal h = let k = of_its EqualValue h in of_value (λ u w there. has_equal conf.types u w there ≡ true) k.0 k.1 k.2 k.3 k.5

    missing : m.op ≡ ops.Delete → has_equal conf.types t v (by_then earlier) ≡ false → its NoValue
    missing op h = (m, before_block conf d r rdns here e found b, is_block conf d r rdns here e found b m block, (t, v, by_then earlier, is_value, op, h))

    is_missing : its NoValue → has_equal conf.types t v (by_then earlier) ≡ false
    is_missing h = let k = of_its NoValue h in of_value (λ u w there. has_equal conf.types u w there ≡ false) k.0 k.1 k.2 k.3 k.5

  module _ {A : Type 0} (x : Result A Code) (k : Result (List (List ℕ)) Code → Result A Code) (fails : (c : Code) → k (Err c) ≡ Err c) where
    abbrev Done : Type 0
    Done = x ≡ k (Ok (by_then m.values))

    abbrev answers : List Flaw → Type 0
    answers fs = Answers (HasFlaw conf mode d r) flaw_code Done fs x

    -- two tests in turn, and the fault of each
    turn : (a c : Bool) (f g : Code) (rest : Result (List (List ℕ)) Code) → k (cond a (Err f) (cond c (Err g) rest)) ≡ cond a (Err f) (cond c (Err g) (k rest))
    turn true c f g rest = fails f
    turn false true f g rest = fails g
    turn false false f g rest = refl

    -- ---- values that come

    module _ (op : Not (m.op ≡ ops.Delete)) (more : (earlier : List (List ℕ)) (v : List ℕ) → by_then (earlier ++ v ∷ []) ≡ by_then earlier ++ v ∷ []) where
      appended : (vs earlier : List (List ℕ)) (i : ℕ) → m.values ≡ earlier ++ vs → length earlier ≡ i → x ≡ k (through (append_value conf.types t) (by_then earlier) vs) → answers (value_checks b i vs)
      unfolding through
      appended [] earlier i whole long is = is ∙ ap (λ (ws : List (List ℕ)). k (Ok (by_then ws))) (sym (append-nil earlier) ∙ sym whole)
      appended (v ∷ vs) earlier i whole long is =
          let at : slice_get m.values i ≡ Some v = ap (λ (ws : List (List ℕ)). slice_get ws i) whole ∙ ap (slice_get (earlier ++ v ∷ vs)) (sym long) ∙ get_seam earlier v vs in
          let front : take i m.values ≡ earlier = ap (λ (ws : List (List ℕ)). take i ws) whole ∙ ap (λ (j : ℕ). take j (earlier ++ v ∷ vs)) (sym long) ∙ take_seam earlier (v ∷ vs) in
          let later : List Flaw = value_checks b (suc i) vs in
          let valid : Bool = is_valid_at conf.types t v in
          let there : Bool = has_equal conf.types t v (by_then earlier) in
          let rest : Result A Code = k (through (append_value conf.types t) (by_then earlier ++ v ∷ []) vs) in
          check (HasFlaw conf mode d r) flaw_code Done (not valid) (Value b i BadSyntax) (Value b i EqualValue ∷ Value b i NoValue ∷ later) x (cond there (Err AttributeOrValueExists) rest)
          (is ∙ step (not valid) there (by_then earlier ++ v ∷ []) vs)
          (λ h. invalid i v earlier at front (off valid h)) (λ h. on valid (is_invalid i v earlier at front h)) λ fine said.
          check (HasFlaw conf mode d r) flaw_code Done there (Value b i EqualValue) (Value b i NoValue ∷ later) x rest said
          (equal i v earlier at front op) (is_equal i v earlier at front) λ new said.
          passed (HasFlaw conf mode d r) flaw_code Done (Value b i NoValue) later x (λ h. op (of_its i v earlier at front NoValue h).4)
          (appended vs (earlier ++ v ∷ []) (suc i) (whole ∙ sym (append_assoc earlier (v ∷ []) vs)) (omega (arith, long, length_push earlier v))
          (said ∙ ap (λ (ws : List (List ℕ)). k (through (append_value conf.types t) ws vs)) (sym (more earlier v))))
        where
          step : (a c : Bool) (next vs : List (List ℕ)) → k ((cond a (Err InvalidAttributeSyntax) (cond c (Err AttributeOrValueExists) (Ok next))) >>= λ ws. through (append_value conf.types t) ws vs)
              ≡ cond a (Err InvalidAttributeSyntax) (cond c (Err AttributeOrValueExists) (k (through (append_value conf.types t) next vs)))
          step true c next vs = fails InvalidAttributeSyntax
          step false true next vs = fails AttributeOrValueExists
          step false false next vs = refl

    -- ---- values that go

    module _ (op : m.op ≡ ops.Delete) (more : (earlier : List (List ℕ)) (v : List ℕ) → by_then (earlier ++ v ∷ []) ≡ without_value conf.types t (by_then earlier) v) where
      removed : (vs earlier : List (List ℕ)) (i : ℕ) → m.values ≡ earlier ++ vs → length earlier ≡ i → x ≡ k (through (remove_value conf.types t) (by_then earlier) vs) → answers (value_checks b i vs)
      unfolding through
      removed [] earlier i whole long is = is ∙ ap (λ (ws : List (List ℕ)). k (Ok (by_then ws))) (sym (append-nil earlier) ∙ sym whole)
      removed (v ∷ vs) earlier i whole long is =
          let at : slice_get m.values i ≡ Some v = ap (λ (ws : List (List ℕ)). slice_get ws i) whole ∙ ap (slice_get (earlier ++ v ∷ vs)) (sym long) ∙ get_seam earlier v vs in
          let front : take i m.values ≡ earlier = ap (λ (ws : List (List ℕ)). take i ws) whole ∙ ap (λ (j : ℕ). take j (earlier ++ v ∷ vs)) (sym long) ∙ take_seam earlier (v ∷ vs) in
          let later : List Flaw = value_checks b (suc i) vs in
          let valid : Bool = is_valid_at conf.types t v in
          let there : Bool = has_equal conf.types t v (by_then earlier) in
          let rest : Result A Code = k (through (remove_value conf.types t) (without_value conf.types t (by_then earlier) v) vs) in
          check (HasFlaw conf mode d r) flaw_code Done (not valid) (Value b i BadSyntax) (Value b i EqualValue ∷ Value b i NoValue ∷ later) x (cond (not there) (Err NoSuchAttribute) rest)
          (is ∙ step (not valid) (not there) (without_value conf.types t (by_then earlier) v) vs)
          (λ h. invalid i v earlier at front (off valid h)) (λ h. on valid (is_invalid i v earlier at front h)) λ fine said.
          passed (HasFlaw conf mode d r) flaw_code Done (Value b i EqualValue) (Value b i NoValue ∷ later) x (λ h. (of_its i v earlier at front EqualValue h).4 op)
          (check (HasFlaw conf mode d r) flaw_code Done (not there) (Value b i NoValue) later x rest said
          (λ h. missing i v earlier at front op (off there h)) (λ h. on there (is_missing i v earlier at front h)) λ old said.
          removed vs (earlier ++ v ∷ []) (suc i) (whole ∙ sym (append_assoc earlier (v ∷ []) vs)) (omega (arith, long, length_push earlier v))
          (said ∙ ap (λ (ws : List (List ℕ)). k (through (remove_value conf.types t) ws vs)) (sym (more earlier v))))
        where
          step : (a c : Bool) (next vs : List (List ℕ)) → k ((cond a (Err InvalidAttributeSyntax) (cond c (Err NoSuchAttribute) (Ok next))) >>= λ ws. through (remove_value conf.types t) ws vs)
              ≡ cond a (Err InvalidAttributeSyntax) (cond c (Err NoSuchAttribute) (k (through (remove_value conf.types t) next vs)))
          step true c next vs = fails InvalidAttributeSyntax
          step false true next vs = fails NoSuchAttribute
          step false false next vs = refl

    -- ---- all of them, by the operation

    module _ (P : Type 0) (follows : Done → P) where
      abbrev all_answer : Type 0
      all_answer = Answers (HasFlaw conf mode d r) flaw_code P (value_checks b 0 m.values) x

      so : answers (value_checks b 0 m.values) → all_answer
      so h = weaker (HasFlaw conf mode d r) flaw_code Done P follows (value_checks b 0 m.values) x h

      pub comes : m.op ≡ ops.Add → x ≡ k (through (append_value conf.types t) old m.values) → all_answer
      comes op is = so (appended (λ h. let both = sym op ∙ h in absurd cc) (λ earlier v. with_op ops.Add op (earlier ++ v ∷ []) ∙ sym (append_assoc old earlier (v ∷ [])) ∙ ap (λ (ws : List (List ℕ)). ws ++ v ∷ []) (sym (with_op ops.Add op earlier)))
          m.values [] 0 refl refl (is ∙ ap (λ (ws : List (List ℕ)). k (through (append_value conf.types t) ws m.values)) (sym (append-nil old) ∙ sym (with_op ops.Add op []))))
        where
          with_op : (o : Op) → m.op ≡ o → (ws : List (List ℕ)) → by_then ws ≡ values_with conf.types t o old ws
          with_op o op ws = ap (λ (p : Op). values_with conf.types t p old ws) op

      pub replaces : m.op ≡ ops.Replace → x ≡ k (through (append_value conf.types t) [] m.values) → all_answer
      replaces op is = so (appended (λ h. let both = sym op ∙ h in absurd cc) (λ earlier v. with_op (earlier ++ v ∷ []) ∙ ap (λ (ws : List (List ℕ)). ws ++ v ∷ []) (sym (with_op earlier)))
          m.values [] 0 refl refl (is ∙ ap (λ (ws : List (List ℕ)). k (through (append_value conf.types t) ws m.values)) (sym (with_op []))))
        where
          with_op : (ws : List (List ℕ)) → by_then ws ≡ ws
          with_op ws = ap (λ (p : Op). values_with conf.types t p old ws) op

      pub goes : m.op ≡ ops.Delete → x ≡ k (through (remove_value conf.types t) old m.values) → all_answer
      goes op is = so (removed op (λ earlier v. with_op (earlier ++ v ∷ []) ∙ sym (one_goes conf.types t old earlier v) ∙ ap (λ (ws : List (List ℕ)). without_value conf.types t ws v) (sym (with_op earlier)))
          m.values [] 0 refl refl (is ∙ ap (λ (ws : List (List ℕ)). k (through (remove_value conf.types t) ws m.values)) (sym (none_goes conf.types t old) ∙ sym (with_op []))))
        where
          with_op : (ws : List (List ℕ)) → by_then ws ≡ values_with conf.types t ops.Delete old ws
          with_op ws = ap (λ (p : Op). values_with conf.types t p old ws) op
