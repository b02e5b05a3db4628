-- Values of AVAs of names, and names as values.
use Rattle.std.proofs.Common.{◌≡◌, ℕ, Bool, true, false, cond, not, ◌&&◌, List, [], ◌∷◌, length, Option, Some, Err, refl, ap, ◌∙◌, arith}
use Rattle.std.specs.Prelude.{◌==◌, is_some}
use Rattle.std.specs.List.{list_all}
use Rattle.std.specs.Str.{is_utf8, chars}
use lib.Utf8.{encode}
use Rattle.std.proofs.lemmas.Bool.{ne_eqb}
use Rattle.values.specs.declared.types.AttributeType.{AttributeType}
use Rattle.values.specs.declared.types.TypeSyntax.{TypeSyntax}
use Rattle.values.specs.declared.types.TypeSyntax.TheVariants as type_syntaxes
use Rattle.values.specs.Types.{type_at}
use Rattle.matching.specs.declared.syntax.Syntax.{Syntax}
use Rattle.matching.specs.declared.syntax.Syntax.TheVariants as syntaxes
use Rattle.matching.specs.Syntaxes.{is_valid}
use Rattle.base.specs.Answers.{◌>>=◌}
use Rattle.dn.specs.Names.{is_byte}
use Rattle.dn.specs.Reading.{octets_from, trimmed, value_of, ava_at, ava_of, cut_raw, rdn_of, name_of}
use Rattle.dn.specs.Writing.{text_of}
use Rattle.schema.specs.declared.code.Code.TheVariants.{InvalidDnSyntax}
use Rattle.schema.specs.TypeRules.{has_name_syntax, is_syntax}
use Rattle.schema.specs.Names.{or_invalid, name_in}
use Rattle.schema.specs.Rdns.{is_plain, is_valid_ava, typed, rdns_from}
use Rattle.schema.specs.Values.{rdns_in, normal_text, normal_of, normal_name, is_valid_by, is_valid_at}

-- a type whose values aren't names takes the same values in a name
pub plain_is : (types : List AttributeType) (t : ℕ) (v : List ℕ) → has_name_syntax types t ≡ false → is_valid_at types t v ≡ is_valid_ava types t v
unfolding is_valid_at
plain_is types t v h = by (type_at types t).syntax h
  where
    by : (s : TypeSyntax) → is_syntax type_syntaxes.Name s ≡ false → is_valid_by types s v ≡ is_plain s v
    by type_syntaxes.Name k = absurd cc
    by (type_syntaxes.Plain s) k = refl

-- what a law of values says: valid ones are bytes
abbrev pub HaveBytes : Type 0
HaveBytes = (syntax : Syntax) (value : List ℕ) → is_valid syntax value ≡ true → list_all is_byte value ≡ true

both : (a b : Bool) → a ≡ true → b ≡ true → (a && b) ≡ true
both a b h k = ap (λ x. x && b) h ∙ k

module _ (bytes : HaveBytes) where
  text_bytes : (v : List ℕ) → is_utf8 v ≡ true → list_all is_byte v ≡ true
  unfolding is_valid
  text_bytes [] h = refl
  text_bytes (b ∷ bs) h = bytes syntaxes.Text (b ∷ bs) (both (not (length (b ∷ bs) == 0)) (is_utf8 (b ∷ bs)) (ap not (ne_eqb (length (b ∷ bs)) 0 (λ e. omega arith))) h)

  name_bytes : (types : List AttributeType) (v : List ℕ) → is_some (normal_name types v) ≡ true → list_all is_byte v ≡ true
  unfolding normal_name rdns_in name_in
  name_bytes types v h =
      elim (is_utf8 v) as (λ b. is_utf8 v ≡ b → is_some (normal_of types (cond b (or_invalid (name_of v)) (Err InvalidDnSyntax) >>= typed types)) ≡ true → list_all is_byte v ≡ true) [
        | true ↦ λ is said. text_bytes v is
        | false ↦ λ is said. absurd cc
      ] refl h

  pub valid_are_bytes : (types : List AttributeType) (t : ℕ) (v : List ℕ) → is_valid_at types t v ≡ true → list_all is_byte v ≡ true
  unfolding is_valid_at
  valid_are_bytes types t v h = by (type_at types t).syntax h
    where
      by : (s : TypeSyntax) → is_valid_by types s v ≡ true → list_all is_byte v ≡ true
      by type_syntaxes.Name k = name_bytes types v k
      by (type_syntaxes.Plain s) k = bytes s v k

-- the normal form of the empty name
pub of_nothing : (types : List AttributeType) → normal_name types [] ≡ Some []
unfolding normal_name rdns_in name_in name_of cut_raw rdn_of ava_of ava_at value_of octets_from trimmed rdns_from normal_text text_of is_utf8 chars encode
of_nothing types = refl

pub nothing_from : (types : List AttributeType) (raw norm : List ℕ) → Some norm ≡ normal_name types raw → raw ≡ [] → norm ≡ []
nothing_from types raw norm e is = by norm (e ∙ ap (normal_name types) is ∙ of_nothing types)
  where
    by : (n : List ℕ) → ◌≡◌ {A = Option (List ℕ)} (Some n) (Some []) → n ≡ []
    by n k = cc
