-- What a fault of the host is to the folder and to the tree.
use Rattle.folder_core.specs.declared.fault.FolderError.{FolderError}
use Rattle.folder_core.specs.declared.fault.FolderError.TheVariants as folder_error
use Rattle.folder_core.specs.declared.fault.TreeError.{TreeError}
use Rattle.folder_core.specs.declared.fault.TreeError.TheVariants as tree_error
use Rattle.host_adapters.specs.declared.faults.HostFault.{HostFault}
use Rattle.host_adapters.specs.declared.faults.HostFault.TheVariants.{Failed, NoMemory}

abbrev pub folder_error_of : HostFault → FolderError
folder_error_of Failed = folder_error.Failed
folder_error_of NoMemory = folder_error.NoMemory

abbrev pub tree_error_of : HostFault → TreeError
tree_error_of Failed = tree_error.Failed
tree_error_of NoMemory = tree_error.NoMemory
