-- streams and files: bytes read and written, files by name, their limits, and calls that fail
pub mod Contents
pub mod Shelves
pub mod Limits
pub mod Faults
-- a disk: what a write does to its bytes, torn or whole, and what a crash may leave
pub mod Overwritten
pub mod Disks
pub mod Crashes
-- a disk in memory, which keeps a log of its calls
pub mod DiskLogs
pub mod DiskLaws
pub mod MemoryDisks
