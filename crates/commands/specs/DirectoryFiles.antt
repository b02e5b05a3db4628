-- The names of the files of a directory.
use Rattle.std.specs.Prelude.{◌≢◌, ℕ, List, ◌++◌, codes}

abbrev pub file_in : List ℕ → List ℕ → List ℕ
file_in db name = db ++ (codes "/" ++ name)

abbrev pub conf_name : List ℕ → List ℕ
conf_name db = file_in db (codes "dir.conf")

abbrev pub data_name : List ℕ → List ℕ
data_name db = file_in db (codes "data.ldif")

abbrev pub index_name : List ℕ → List ℕ
index_name db = file_in db (codes "index.txt")

-- this is the name of none of them
pub record IsForeign (db name : List ℕ) : Type 0 where
  pub not_conf : name ≢ conf_name db
  pub not_data : name ≢ data_name db
  pub not_index : name ≢ index_name db
