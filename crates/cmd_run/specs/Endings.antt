-- The status with which open transactions are ended after the items of a run (this project's own).
use Rattle.pam_base.specs.declared.code.Code.{Code}
use Rattle.pam_base.specs.declared.code.Code.TheVariants.{Success, SystemErr, BufErr, Abort}
use Rattle.record_reader.specs.declared.ending.Ending.{Ending}
use Rattle.record_reader.specs.declared.ending.Ending.TheVariants.{Done, ReadFault, Refused}
use Rattle.record_reader.specs.declared.ending.Stop.{Stop}
use Rattle.record_reader.specs.declared.ending.Stop.TheVariants.{NoMemory, WriteFault}

abbrev pub ending_status : {Kind : Type 0} → Ending Kind → Code
ending_status Done = Success
ending_status ReadFault = SystemErr
ending_status (Refused kind) = Abort

abbrev pub stop_status : Stop → Code
stop_status NoMemory = BufErr
stop_status WriteFault = SystemErr
