-- The file of a disk in memory.
use Rattle.disk_model.specs.File.{File}
use Rattle.disk_model.specs.Sectors.{content_of}
use Rattle.disk_model.specs.declared.mem_disk.MemDisk.{MemDisk}

-- The file that the disk keeps. Such a disk never fails.
abbrev pub file_of : MemDisk → File
file_of disk = record { content = content_of disk.sectors; power = disk.power; failures = 0 }
