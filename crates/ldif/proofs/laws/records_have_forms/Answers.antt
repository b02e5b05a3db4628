use Rattle.ldif.proofs.RecordForms.{record_found, record_only}
use Rattle.ldif.proofs.laws.records_have_forms.Goals as goal

pub returns : goal.returns
returns c mode first lines found bytes = (record_found mode first lines found bytes, record_only mode first lines found)
