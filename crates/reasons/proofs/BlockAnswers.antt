-- The first flaw of the blocks of a modify.
use Rattle.std.proofs.Common.{◌≡◌, ℕ, suc, Bool, true, false, cond, not, List, [], ◌∷◌, ◌++◌, length, take, map, Option, Some, None, Result, Ok, Err, refl, sym, ap, subst, ◌∙◌, arith}
use Rattle.std.specs.Prelude.{◌&&◌}
use Rattle.std.specs.List.{slice_get}
use Rattle.std.specs.FinMap as finite
use Rattle.std.proofs.lemmas.Bool.{lt-ltb}
use Rattle.std.proofs.lemmas.List.{append-nil, append_assoc, length_push}
use Rattle.std.proofs.lemmas.List.Sums.{fold-append}
use Rattle.base.specs.Answers.{◌>>=◌, through}
use Rattle.ldif.specs.declared.record.Mod.{Mod}
use Rattle.ldif.specs.declared.record.Mode.{Mode}
use Rattle.ldif.specs.declared.record.Op.{Op}
use Rattle.ldif.specs.declared.record.Op.TheVariants as ops
use Rattle.ldif.specs.declared.record.Record.{Record}
use Rattle.values.specs.Types.{type_of, type_at, has_equality}
use Rattle.schema.specs.Conf.{Conf}
use Rattle.schema.specs.Rdns.{TypedRdn}
use Rattle.schema.specs.declared.code.Code.{Code}
use Rattle.schema.specs.declared.code.Code.TheVariants.{ProtocolError, NoSuchAttribute, UndefinedAttributeType, InappropriateMatching, ConstraintViolation}
use Rattle.schema.specs.FirstFlaws.{Not}
use Rattle.entries.specs.Entries.{Attributes, EntryContent, values_of}
use Rattle.entries.specs.Modifies.{unless, has_values, block_values, changed_values, remove_value, op_fault, set_values, modify_at, named_type, modify_block}
use Rattle.tree.specs.Directories.{Entries}
use Rattle.reasons.specs.NameFlaws.{HasPlace}
use Rattle.reasons.specs.BlockFlaws.{BlockFlaw, UnknownType, UsersCantChange, NoValues, NoEquality, NoAttribute, HasBlockFlaw, Compares, IsOfType, values_with, values_after, with_block, after_block, modified, block_order}
use Rattle.reasons.specs.Asked.{name_of_record, blocks_of_record}
use Rattle.reasons.specs.Flaws.{Flaw, Block, HasFlaw, flaw_code, value_checks, block_checks}
use Rattle.reasons.proofs.Elements.{both, is_none, joined, off, on, only_some}
use Rattle.reasons.proofs.Answering.{Answers, check, passed, failed, behind, weaker}
use Rattle.reasons.proofs.Lines.{get_seam, take_seam}
use Rattle.reasons.proofs.Places.{its_path, before_block, is_block, of_block}
use Rattle.reasons.proofs.ValueAnswers as values

has_some : {X : Type 0} (xs : List X) → Not (xs ≡ []) → has_values xs ≡ true
has_some [] h = absurd (h refl)
has_some (x ∷ xs) h = lt-ltb 0 (suc (length xs)) (omega arith)

some_there : {X : Type 0} (xs : List X) → has_values xs ≡ true → Not (xs ≡ [])
some_there [] h e = absurd cc
some_there (x ∷ xs) h e = absurd cc

none_there : {X : Type 0} (xs : List X) → xs ≡ [] → has_values xs ≡ false
none_there xs e = ap has_values e

is_empty : {X : Type 0} (xs : List X) → has_values xs ≡ false → xs ≡ []
is_empty [] h = refl
is_empty (x ∷ xs) h = absurd (let some = sym (lt-ltb 0 (suc (length xs)) (omega arith)) ∙ h in cc)

module _ (conf : Conf) (mode : Mode) (d : Entries) (r : Record) (rdns : List TypedRdn) (here : HasPlace conf (name_of_record r) rdns)
    (e : EntryContent) (found : finite.get d (its_path conf d r rdns here) ≡ Some e) {A : Type 0} (x : Result A Code) where
  abbrev all : List Mod
  all = blocks_of_record r

  module _ (b : ℕ) (m : Mod) (block : slice_get all b ≡ Some m) where
    abbrev before : Attributes
    before = before_block conf d r rdns here e found b

    abbrev Has : BlockFlaw → Type 0
    Has f = HasFlaw conf mode d r (Block b f)

    to : (f : BlockFlaw) → HasBlockFlaw conf.types before m f → Has f
    to f h = (m, before, is_block conf d r rdns here e found b m block, h)

    from : (f : BlockFlaw) → Has f → HasBlockFlaw conf.types before m f
    from f h = of_block conf d r rdns here e found b m block (λ n attrs. HasBlockFlaw conf.types attrs n f) h.0 h.1 h.2 h.3

    module _ (t : ℕ) (known : type_of conf.types m.attr ≡ Some t) (k : Result (List (List ℕ)) Code → Result A Code) (fails : (c : Code) → k (Err c) ≡ Err c) where
      abbrev old : List (List ℕ)
      old = values_of before t

      abbrev checks : List Flaw
      checks = value_checks b 0 m.values

      abbrev Done : Type 0
      Done = x ≡ k (Ok (values_after conf.types t m.op old m.values))

      abbrev answers : List Flaw → Type 0
      answers fs = Answers (HasFlaw conf mode d r) flaw_code Done fs x

      of_type : (Q : ℕ → Type 0) (u : ℕ) → IsOfType conf.types m u → Q u → Q t
      of_type Q u is h = subst Q (only_some (type_of conf.types m.attr) u t is known) h

      -- one test, and its fault
      one : (a : Bool) (c : Code) (o : Option Code) (vs : Result (List (List ℕ)) Code) → k (unless (cond a (Some c) o) vs) ≡ cond a (Err c) (k (unless o vs))
      one true c o vs = fails c
      one false c o vs = refl

      compared : Has NoEquality → Compares m.op old m.values × (has_equality conf.types t ≡ false)
      compared h =
          let p = from NoEquality h in
          (of_type (λ u. Compares m.op (values_of before u) m.values) p.0 p.1 p.2, of_type (λ u. has_equality conf.types u ≡ false) p.0 p.1 p.3)

      absent : Has NoAttribute → old ≡ []
      absent h = let p = from NoAttribute h in of_type (λ u. values_of before u ≡ []) p.0 p.1 p.3

      -- ---- by the operation

      adds : m.op ≡ ops.Add → x ≡ k (unless (op_fault conf.types t ops.Add (has_values old) (has_values m.values)) (block_values conf.types t ops.Add old m.values))
          → answers (Block b NoValues ∷ Block b NoEquality ∷ Block b NoAttribute ∷ checks)
      adds op is =
          let some : Bool = has_values m.values in
          let ruled : Bool = has_equality conf.types t in
          let clash : Bool = has_values old && not ruled in
          let last : Result (List (List ℕ)) Code = block_values conf.types t ops.Add old m.values in
          check (HasFlaw conf mode d r) flaw_code Done (not some) (Block b NoValues) (Block b NoEquality ∷ Block b NoAttribute ∷ checks) x (k (unless (cond clash (Some InappropriateMatching) None) last))
          (is ∙ one (not some) ProtocolError (cond clash (Some InappropriateMatching) None) last)
          (λ h. to NoValues (op, is_empty m.values (off some h))) (λ h. on some (none_there m.values (from NoValues h).1)) λ filled said.
          check (HasFlaw conf mode d r) flaw_code Done clash (Block b NoEquality) (Block b NoAttribute ∷ checks) x (k last)
          (said ∙ one clash InappropriateMatching None last)
          (λ h. let p = both (has_values old) (not ruled) h in to NoEquality (t, known, subst (λ (o : Op). Compares o old m.values) (sym op) (some_there old p.0), off ruled p.1))
          (λ h. let p = compared h in joined (has_values old) (not ruled) (has_some old (subst (λ (o : Op). Compares o old m.values) op p.0)) (on ruled p.1)) λ free said.
          passed (HasFlaw conf mode d r) flaw_code Done (Block b NoAttribute) checks x (λ h. let other = sym op ∙ (from NoAttribute h).2 in absurd cc)
          (values.comes conf mode d r rdns here e found b m block t known x k fails Done (λ end. end ∙ ap (λ (o : Op). k (Ok (values_with conf.types t o old m.values))) op ∙ ap (λ (o : Op). k (Ok (values_after conf.types t o old m.values))) (sym op)) op said)

      replaces : m.op ≡ ops.Replace → x ≡ k (block_values conf.types t ops.Replace old m.values) → answers (Block b NoValues ∷ Block b NoEquality ∷ Block b NoAttribute ∷ checks)
      replaces op is =
          passed (HasFlaw conf mode d r) flaw_code Done (Block b NoValues) (Block b NoEquality ∷ Block b NoAttribute ∷ checks) x (λ h. let other = sym op ∙ (from NoValues h).0 in absurd cc)
          (passed (HasFlaw conf mode d r) flaw_code Done (Block b NoEquality) (Block b NoAttribute ∷ checks) x (λ h. subst (λ (o : Op). Compares o old m.values) op (compared h).0)
          (passed (HasFlaw conf mode d r) flaw_code Done (Block b NoAttribute) checks x (λ h. let other = sym op ∙ (from NoAttribute h).2 in absurd cc)
          (values.replaces conf mode d r rdns here e found b m block t known x k fails Done (λ end. end ∙ ap (λ (o : Op). k (Ok (values_with conf.types t o old m.values))) op ∙ ap (λ (o : Op). k (Ok (values_after conf.types t o old m.values))) (sym op)) op is)))

      -- all values, or those of the block
      goes : m.op ≡ ops.Delete → (vs : List (List ℕ)) → m.values ≡ vs → x ≡ k (block_values conf.types t ops.Delete old vs) → answers checks
      goes op [] none is = subst (λ (vs : List (List ℕ)). answers (value_checks b 0 vs)) (sym none)
          (is ∙ ap (λ (vs : List (List ℕ)). k (Ok (values_after conf.types t ops.Delete old vs))) (sym none) ∙ ap (λ (o : Op). k (Ok (values_after conf.types t o old m.values))) (sym op))
      goes op (v ∷ vs) some is = values.goes conf mode d r rdns here e found b m block t known x k fails Done
          (λ end. end ∙ ap (λ (o : Op). k (Ok (values_with conf.types t o old m.values))) op ∙ ap (λ (ws : List (List ℕ)). k (Ok (values_with conf.types t ops.Delete old ws))) some
          ∙ ap (λ (ws : List (List ℕ)). k (Ok (values_after conf.types t ops.Delete old ws))) (sym some) ∙ ap (λ (o : Op). k (Ok (values_after conf.types t o old m.values))) (sym op))
          op (is ∙ ap (λ (ws : List (List ℕ)). k (through (remove_value conf.types t) old ws)) (sym some))

      deletes : m.op ≡ ops.Delete → x ≡ k (unless (op_fault conf.types t ops.Delete (has_values old) (has_values m.values)) (block_values conf.types t ops.Delete old m.values))
          → answers (Block b NoValues ∷ Block b NoEquality ∷ Block b NoAttribute ∷ checks)
      deletes op is =
          let ruled : Bool = has_equality conf.types t in
          let clash : Bool = has_values m.values && not ruled in
          let there : Bool = has_values old in
          let last : Result (List (List ℕ)) Code = block_values conf.types t ops.Delete old m.values in
          passed (HasFlaw conf mode d r) flaw_code Done (Block b NoValues) (Block b NoEquality ∷ Block b NoAttribute ∷ checks) x (λ h. let other = sym op ∙ (from NoValues h).0 in absurd cc)
          (check (HasFlaw conf mode d r) flaw_code Done clash (Block b NoEquality) (Block b NoAttribute ∷ checks) x (k (unless (cond (not there) (Some NoSuchAttribute) None) last))
          (is ∙ one clash InappropriateMatching (cond (not there) (Some NoSuchAttribute) None) last)
          (λ h. let p = both (has_values m.values) (not ruled) h in to NoEquality (t, known, subst (λ (o : Op). Compares o old m.values) (sym op) (some_there m.values p.0), off ruled p.1))
          (λ h. let p = compared h in joined (has_values m.values) (not ruled) (has_some m.values (subst (λ (o : Op). Compares o old m.values) op p.0)) (on ruled p.1)) λ free said.
          check (HasFlaw conf mode d r) flaw_code Done (not there) (Block b NoAttribute) checks x (k last)
          (said ∙ one (not there) NoSuchAttribute None last)
          (λ h. to NoAttribute (t, known, op, is_empty old (off there h))) (λ h. on there (none_there old (absent h))) λ filled said.
          goes op m.values refl said)

      operated : (o : Op) → m.op ≡ o → x ≡ k (unless (op_fault conf.types t o (has_values old) (has_values m.values)) (block_values conf.types t o old m.values))
          → answers (Block b NoValues ∷ Block b NoEquality ∷ Block b NoAttribute ∷ checks)
      operated ops.Add op is = adds op is
      operated ops.Delete op is = deletes op is
      operated ops.Replace op is = replaces op is

      of_known : x ≡ k (changed_values conf.types t m.op old m.values) → answers (map (Block b) block_order ++ checks)
      of_known is =
          let fixed : Bool = (type_at conf.types t).is_fixed in
          let last : Result (List (List ℕ)) Code = block_values conf.types t m.op old m.values in
          let fault : Option Code = op_fault conf.types t m.op (has_values old) (has_values m.values) in
          passed (HasFlaw conf mode d r) flaw_code Done (Block b UnknownType) (Block b UsersCantChange ∷ Block b NoValues ∷ Block b NoEquality ∷ Block b NoAttribute ∷ checks) x
          (λ h. is_none (type_of conf.types m.attr) t (from UnknownType h) known)
          (check (HasFlaw conf mode d r) flaw_code Done fixed (Block b UsersCantChange) (Block b NoValues ∷ Block b NoEquality ∷ Block b NoAttribute ∷ checks) x (k (unless fault last))
          (is ∙ one fixed ConstraintViolation fault last)
          (λ h. to UsersCantChange (t, known, h)) (λ h. let p = from UsersCantChange h in of_type (λ u. (type_at conf.types u).is_fixed ≡ true) p.0 p.1 p.2) λ free said.
          operated m.op refl said)

    -- ---- a block, of a type that is known or not

    module _ (k : Result Attributes Code → Result A Code) (fails : (c : Code) → k (Err c) ≡ Err c) where
      abbrev End : Type 0
      End = x ≡ k (Ok (after_block conf.types before m))

      abbrev of_type_is : Option ℕ → Result A Code
      of_type_is o = k (named_type o >>= λ t. modify_at conf.types before t m.op m.values)

      one_block : x ≡ k (modify_block conf.types before m) → Answers (HasFlaw conf mode d r) flaw_code End (map (Block b) block_order ++ value_checks b 0 m.values) x
      unfolding modify_at
      one_block is = by (type_of conf.types m.attr) refl
        where
          set_then : ℕ → Result (List (List ℕ)) Code → Result A Code
          set_then t ws = k (ws >>= λ vs. Ok (set_values before t vs))

          by : (o : Option ℕ) → type_of conf.types m.attr ≡ o → Answers (HasFlaw conf mode d r) flaw_code End (map (Block b) block_order ++ value_checks b 0 m.values) x
          by None none = failed (HasFlaw conf mode d r) flaw_code End (Block b UnknownType) (Block b UsersCantChange ∷ Block b NoValues ∷ Block b NoEquality ∷ Block b NoAttribute ∷ value_checks b 0 m.values) x
              (to UnknownType none) (is ∙ ap of_type_is none ∙ fails UndefinedAttributeType)
          by (Some t) known = weaker (HasFlaw conf mode d r) flaw_code
              (Done t known (λ ws. k (ws >>= λ vs. Ok (set_values before t vs))) fails) End
              (λ done. done ∙ ap (λ (o : Option ℕ). k (Ok (with_block conf.types before m o))) (sym known))
              (map (Block b) block_order ++ value_checks b 0 m.values) x
              (of_known t known (λ ws. k (ws >>= λ vs. Ok (set_values before t vs))) fails (is ∙ ap of_type_is known))

  -- ---- from a block on

  module _ (k : Attributes → Result A Code) where
    abbrev AllDone : Type 0
    AllDone = x ≡ k (modified conf.types e.attrs all)

    abbrev from_on : Attributes → List Mod → Result A Code
    from_on attrs ms = through (modify_block conf.types) attrs ms >>= k

    from_block : (ms earlier : List Mod) (b : ℕ) → all ≡ earlier ++ ms → length earlier ≡ b → x ≡ from_on (modified conf.types e.attrs earlier) ms
        → Answers (HasFlaw conf mode d r) flaw_code AllDone (block_checks b ms) x
    unfolding through
    from_block [] earlier b whole long is = is ∙ ap (λ (ms : List Mod). k (modified conf.types e.attrs ms)) (sym (append-nil earlier) ∙ sym whole)
    from_block (m ∷ ms) earlier b whole long is =
        let block : slice_get all b ≡ Some m = ap (λ (ns : List Mod). slice_get ns b) whole ∙ ap (slice_get (earlier ++ m ∷ ms)) (sym long) ∙ get_seam earlier m ms in
        let front : take b all ≡ earlier = ap (λ (ns : List Mod). take b ns) whole ∙ ap (λ (j : ℕ). take j (earlier ++ m ∷ ms)) (sym long) ∙ take_seam earlier (m ∷ ms) in
        let next : Result Attributes Code → Result A Code = λ attrs. (attrs >>= λ after. through (modify_block conf.types) after ms) >>= k in
        behind (HasFlaw conf mode d r) flaw_code (End b m block next (λ c. refl)) AllDone (map (Block b) block_order ++ value_checks b 0 m.values) (block_checks (suc b) ms) x
        (one_block b m block next (λ c. refl) (is ∙ ap (λ (ns : List Mod). next (modify_block conf.types (modified conf.types e.attrs ns) m)) (sym front)))
        (λ done. from_block ms (earlier ++ m ∷ []) (suc b) (whole ∙ sym (append_assoc earlier (m ∷ []) ms)) (omega (arith, long, length_push earlier m))
        (done ∙ ap (λ (ns : List Mod). from_on (after_block conf.types (modified conf.types e.attrs ns) m) ms) front ∙ ap (λ (attrs : Attributes). from_on attrs ms) (sym (fold-append (after_block conf.types) e.attrs earlier (m ∷ [])))))

    pub block_answers : x ≡ from_on e.attrs all → Answers (HasFlaw conf mode d r) flaw_code AllDone (block_checks 0 all) x
    block_answers is = from_block all [] 0 refl refl is
