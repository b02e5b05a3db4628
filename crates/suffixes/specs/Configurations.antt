-- A configuration with another suffix.
use Rattle.std.specs.Prelude.{ℕ, List, [], ◌∷◌, Result, Ok, Err}
use Rattle.base.specs.Answers.{◌>>=◌}
use Rattle.values.specs.declared.types.AttributeType.{AttributeType}
use Rattle.schema.specs.declared.code.Code.{Code}
use Rattle.schema.specs.declared.code.Code.TheVariants.{InvalidDnSyntax}
use Rattle.schema.specs.Rdns.{TypedRdn}
use Rattle.schema.specs.Values.{rdns_in}
use Rattle.schema.specs.Conf.{Conf}

-- a suffix has at least one RDN
abbrev pub some_rdns : List TypedRdn → Result (List TypedRdn) Code
some_rdns [] = Err InvalidDnSyntax
some_rdns (r ∷ rs) = Ok (r ∷ rs)

-- the RDNs that a text spells as a suffix; their AVAs pass the checks that those of an entry's name pass
unfoldable pub suffix_in : List AttributeType → List ℕ → Result (List TypedRdn) Code
suffix_in types text = rdns_in types text >>= some_rdns

abbrev pub with_suffix : Conf → List TypedRdn → Conf
with_suffix conf rdns = record conf { suffix = rdns }

-- the same types, classes and slots, and the suffix that a text spells; or the code of that text
abbrev pub conf_under : Conf → List ℕ → Result Conf Code
conf_under conf text = suffix_in conf.types text >>= λ rdns. Ok (with_suffix conf rdns)
