-- The kind of file that is one record and nothing else (heading "Where bytes break").
use Rattle.format.specs.Format.{form1, IsRecord}
use Rattle.fault.specs.Fault.{FileKind}

abbrev pub lone_records : FileKind  -- no field follows a whole record
lone_records = record { Is = IsRecord form1; Full = IsRecord form1 }
