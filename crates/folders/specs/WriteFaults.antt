-- The fault of a folder that a failed write becomes.
use Rattle.ldif.specs.declared.write.WriteFault.{WriteFault}
use Rattle.ldif.specs.declared.write.WriteFault.TheVariants as writes
use Rattle.folders.specs.declared.folder.FolderFault.{FolderFault}
use Rattle.folders.specs.declared.folder.FolderFault.TheVariants as folder_faults

abbrev pub folder_fault : WriteFault → FolderFault
folder_fault writes.Device = folder_faults.Device
folder_fault writes.OutOfMemory = folder_faults.OutOfMemory
